use Rattle.mimic_pool.proofs.Reporting.{history_shown}
use Rattle.mimic_pool.proofs.board.Board.order.Goals as goal

pub returns-clause-history : goal.returns-clause-history
returns-clause-history c = rw (← c.self.view_is) (history_shown c.self.inside c.self.invariant)
