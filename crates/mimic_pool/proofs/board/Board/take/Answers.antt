use Rattle.mimic_pool.specs.Posted.{posted}
use Rattle.mimic_pool.proofs.Reporting.{agrees_taken, board_less, board_taken, row_taken}
use Rattle.mimic_pool.proofs.board.Board.take.Goals as goal

pub invariant_of-self : goal.invariant_of-self
invariant_of-self c = board_less c.self.inside c.next.new.self c.next.ensures.order c.next.ensures.room c.self.invariant c.next.result c.next.ensures.none c.next.ensures.some c.next.ensures.taken

pub returns-clause-agrees : goal.returns-clause-agrees
returns-clause-agrees c =
    let taken = board_taken c.self.inside c.next.new.self c.next.ensures.order c.next.result c.next.ensures.none c.next.ensures.some c.next.ensures.taken in
    rw (← c.self.view_is) (agrees_taken (posted c.self.inside) _ taken.0)

pub returns-clause-row : goal.returns-clause-row
returns-clause-row c =
    let taken = board_taken c.self.inside c.next.new.self c.next.ensures.order c.next.result c.next.ensures.none c.next.ensures.some c.next.ensures.taken in
    rw (← c.self.view_is) (row_taken (posted c.self.inside) c.next.result taken.1)
