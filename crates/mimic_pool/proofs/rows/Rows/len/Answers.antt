use Rattle.std.proofs.Common.{ap, arith, length}
use Rattle.mimic_pool.proofs.Returning.{count_left}
use Rattle.mimic_pool.proofs.rows.Rows.len.Goals as goal

pub returns : goal.returns
returns c =
    let rows = c.self.inside in
    let count = count_left rows.places.items rows.kinds.items c.self.invariant.kinds rows.taken rows.kept.items in
    omega (arith, count, ap (λ r. length r.items) c.self.view_is, c.self.invariant.taken, c.len.ensures, rows.places.ok)
