use Rattle.std.proofs.Common.{◌<◌, ◌≤◌, ◌∙◌, ap, arith, length, refl, sym}
use Rattle.mimic_pool.specs.OutcomeKinds.{rows_of, weight_of_all}
use Rattle.mimic_pool.proofs.Returning.{first_left, none_left, weight_left}
use Rattle.mimic_pool.proofs.rows.Rows.next.Goals as goal

pub returns-then-self-len-clause-none : goal.returns-then-self-len-clause-none
returns-then-self-len-clause-none c =
    let rows = c.self.inside in
    let high : length rows.places.items ≤ rows.taken = omega (arith, c.if-self-len.true, c.len.ensures, rows.places.ok) in
    (ap (λ r. r.items) (sym c.self.view_is) ∙ ap (λ left. rows_of left rows.kept.items) (none_left rows.places.items rows.kinds.items c.self.invariant.kinds rows.taken high), refl)

pub restored-outcome-requires : goal.restored-outcome-requires
restored-outcome-requires c =
    let rows = c.self.inside in
    let inv = c.self.invariant in
    let low : rows.taken < length rows.places.items = omega (arith, c.if-self-len.false, c.len.ensures, rows.places.ok) in
    let weight = ap weight_of_all (first_left rows.places.items rows.kinds.items inv.kinds rows.taken c.index-place.result.now c.index.result.now low c.index-place.ensures c.index.ensures) in
    omega (arith, weight, inv.kept, rows.kept.ok)

pub invariant_of-self : goal.invariant_of-self
invariant_of-self c =
    let rows = c.self.inside in
    let inv = c.self.invariant in
    let low : rows.taken < length rows.places.items = omega (arith, c.if-self-len.false, c.len.ensures, rows.places.ok) in
    let weight = ap weight_of_all (first_left rows.places.items rows.kinds.items inv.kinds rows.taken c.index-place.result.now c.index.result.now low c.index-place.ensures c.index.ensures) in
    record {
      taken = omega (arith, low);
      kinds = inv.kinds;
      kept = rw c.restored-outcome.ensures.kept (omega (arith, weight_left c.index.result.now rows.kept.items, weight, inv.kept));
      kinds_room = inv.kinds_room;
      kept_room = omega (arith, inv.kept_room, c.restored-outcome.ensures.room);
    }

pub returns-clause-some : goal.returns-clause-some
returns-clause-some c =
    let rows = c.self.inside in
    let low : rows.taken < length rows.places.items = omega (arith, c.if-self-len.false, c.len.ensures, rows.places.ok) in
    let is = first_left rows.places.items rows.kinds.items c.self.invariant.kinds rows.taken c.index-place.result.now c.index.result.now low c.index-place.ensures c.index.ensures in
    rw (← c.self.view_is, c.restored-outcome.ensures.outcome, c.restored-outcome.ensures.kept) (ap (λ left. rows_of left rows.kept.items) is)
