use Rattle.std.proofs.Common.{◌≡◌, ◌<◌, length, true, false, arith}
use Rattle.mimic_pool.specs.Prelude.{accepts, Placed, posted}
use Rattle.mimic_pool.proofs.Reporting.{agrees_reported, board_fits, board_more, board_reported, flag_known, refused_again, refused_high, report_refused}
use Rattle.mimic_pool.proofs.board.Board.report.Goals as goal
use Rattle.mimic_pool.proofs.board.Board.report.Goals.{then-place-len-via-then-place-len, then-place-len-via-else-place-len+then-index}

-- ---- it is refused

pub returns-then-place-len-clause-agrees : goal.returns-then-place-len-clause-agrees
returns-then-place-len-clause-agrees c =
    let flags = c.self.inside.reported in
    let refused : accepts (posted c.self.inside) c.args.place ≡ false = elim c.then-place-len.branch [
      | then-place-len-via-then-place-len w ↦ refused_high (posted c.self.inside) c.args.place (omega (arith, w.if-place-len.true, c.len.ensures, flags.ok))
      | then-place-len-via-else-place-len+then-index w ↦
          let low : c.args.place < length flags.items = omega (arith, w.if-place-len.false, c.len.ensures, flags.ok) in
          refused_again (posted c.self.inside) c.args.place low (flag_known c.self.inside c.self.invariant c.args.place w.index.result.now true low w.index.ensures w.if-index.true)
    ] in
    rw (← c.self.view_is) (agrees_reported (posted c.self.inside) (posted c.self.inside) (c.args.place, c.args.outcome) c.self.invariant.taken (report_refused (posted c.self.inside) (c.args.place, c.args.outcome) refused))

-- ---- it is accepted

pub push_reserved-requires : goal.push_reserved-requires
push_reserved-requires c =
    let low : c.args.place < length c.self.inside.reported.items = omega (arith, c.if-place-len.false, c.len.ensures, c.self.inside.reported.ok) in
    let free = flag_known c.self.inside c.self.invariant c.args.place c.index.result.now false low c.index.ensures c.if-index.false in
    board_fits c.self.inside c.self.invariant c.args.place low free

pub invariant_of-self : goal.invariant_of-self
invariant_of-self c =
    let low : c.args.place < length c.self.inside.reported.items = omega (arith, c.if-place-len.false, c.len.ensures, c.self.inside.reported.ok) in
    let free = flag_known c.self.inside c.self.invariant c.args.place c.index.result.now false low c.index.ensures c.if-index.false in
    let put = c.push_reserved.ensures in
    board_more c.self.inside c.self.invariant (c.args.place, c.args.outcome) c.push_reserved.new.self low free put.items put.order put.taken put.room

pub returns-clause-agrees : goal.returns-clause-agrees
returns-clause-agrees c =
    let low : c.args.place < length c.self.inside.reported.items = omega (arith, c.if-place-len.false, c.len.ensures, c.self.inside.reported.ok) in
    let free = flag_known c.self.inside c.self.invariant c.args.place c.index.result.now false low c.index.ensures c.if-index.false in
    let put = c.push_reserved.ensures in
    let row : Placed = (c.args.place, c.args.outcome) in
    let made = board_reported c.self.inside row c.push_reserved.new.self low free put.items put.order put.taken in
    rw (← c.self.view_is) (agrees_reported (posted c.self.inside) _ row c.self.invariant.taken made)
