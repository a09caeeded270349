use Rattle.std.proofs.Common.{◌≡◌, ◌<◌, ◌≤◌, ◌∙◌, Some, ap, arith, drop, length, refl, sym}
use Rattle.mimic_pool.specs.Prelude.{arrived_at, outcome_by, Placed, weight_of_all}
use Rattle.mimic_pool.proofs.Returning.{all_behind, all_first, all_none, first_left, none_left}
use Rattle.mimic_pool.proofs.rows.Rows.have_arrived.Goals as goal

pub is_of_kind-requires : goal.is_of_kind-requires
is_of_kind-requires c =
    let rows = c.self.inside in
    let low : c.loop-number.number < length rows.places.items = omega (arith, c.loop-number-test.true, c.len-number-end.ensures, rows.places.ok) in
    let is = first_left rows.places.items rows.kinds.items c.self.invariant.kinds c.loop-number.number c.index.result.now c.index-kind.result.now low c.index.ensures c.index-kind.ensures in
    omega (arith, ap weight_of_all is, c.loop-number.invariant.kept, rows.kept.ok)

pub returns-then-not-is_of_kind : goal.returns-then-not-is_of_kind
returns-then-not-is_of_kind c =
    let rows = c.self.inside in
    let low : c.loop-number.number < length rows.places.items = omega (arith, c.loop-number-test.true, c.len-number-end.ensures, rows.places.ok) in
    let is = first_left rows.places.items rows.kinds.items c.self.invariant.kinds c.loop-number.number c.index.result.now c.index-kind.result.now low c.index.ensures c.index-kind.ensures in
    let P : Placed → Type 0 = λ row. arrived_at row.0 c.args.desk.now.rows ≡ Some row.1 in
    rw (← c.self.view_is) (
      λ t. absurd (cc),
      λ all.
          let here = all_first P _ _ c.index.result.now c.index-kind.result.now is rows.kept.items c.loop-number.kept (c.loop-number.invariant.arrived.1 all) in
          sym c.if-not-is_of_kind.true ∙ c.is_of_kind.ensures.1 (c.outcome.ensures ∙ here),
    )

pub loop-number-preserved : goal.loop-number-preserved
loop-number-preserved c =
    let rows = c.self.inside in
    let low : c.loop-number.number < length rows.places.items = omega (arith, c.loop-number-test.true, c.len-number-end.ensures, rows.places.ok) in
    let is = first_left rows.places.items rows.kinds.items c.self.invariant.kinds c.loop-number.number c.index.result.now c.index-kind.result.now low c.index.ensures c.index-kind.ensures in
    let P : Placed → Type 0 = λ row. arrived_at row.0 c.args.desk.now.rows ≡ Some row.1 in
    let here : P (c.index.result.now, outcome_by c.index-kind.result.now (drop c.loop-number.kept rows.kept.items)) = sym c.outcome.ensures ∙ c.is_of_kind.ensures.0 c.if-not-is_of_kind.false in
    let before = c.loop-number.invariant in
    let step = all_behind P _ _ c.index.result.now c.index-kind.result.now is rows.kept.items c.loop-number.kept here in
    rw c.weight-kept.ensures (record {
      kept = omega (arith, ap weight_of_all is, before.kept);
      arrived = (λ all. before.arrived.0 (step.0 all), λ all. step.1 (before.arrived.1 all));
    })

pub returns : goal.returns
returns c =
    let rows = c.self.inside in
    let high : length rows.places.items ≤ c.loop-number.number = omega (arith, c.loop-number-test.false, c.len-number-end.ensures, rows.places.ok) in
    let none = none_left rows.places.items rows.kinds.items c.self.invariant.kinds c.loop-number.number high in
    let P : Placed → Type 0 = λ row. arrived_at row.0 c.args.desk.now.rows ≡ Some row.1 in
    rw (← c.self.view_is) (λ t. c.loop-number.invariant.arrived.0 (all_none P _ _ none), λ all. refl)
