use Rattle.std.proofs.Common.{◌≡◌, ◌∙◌, ◌<◌, ◌++◌, ap, append-nil, arith, length, refl, sym}
use Rattle.std.specs.Vec.Iter.{into_iter_items}
use Rattle.mimic_trial.specs.Places.{placed_at}
use Rattle.mimic_pool.proofs.FirstArrivals.{arrived_whole, first_left, next_arrived}
use Rattle.mimic_pool.proofs.Settling.{missing_none}
use Rattle.mimic_pool.proofs.Numbering.{shown_whole}
use Rattle.mimic_pool.proofs.desk.Desk.arrive_missing.Goals as goal

-- if the order is as long as there are places, none is missing
pub returns-then-len-clause-rows : goal.returns-then-len-clause-rows
returns-then-len-clause-rows c =
    let none = missing_none c.self.inside c.args.self.now c.self.invariant c.self.view_is
    (omega (arith, c.if-len.true, c.len.ensures, c.len-2.ensures, c.self.inside.order.ok.0, c.self.inside.numbers.ok.0)) in
    sym (append-nil c.args.self.now.rows) ∙ ap (λ l. c.args.self.now.rows ++ placed_at l c.args.outcomes.items) (sym none)

pub returns-then-len-clause-whole : goal.returns-then-len-clause-whole
returns-then-len-clause-whole c =
    let whole = shown_whole c.self.inside c.args.self.now c.self.invariant c.self.view_is in
    arrived_whole c.args.self.now c.args.self.now c.args.outcomes.items
    (sym c.args.outcomes.ok.0 ∙ c.requires) refl (returns-then-len-clause-rows c) whole

pub loop-outcome-preserved : goal.loop-outcome-preserved
loop-outcome-preserved c =
    let left = into_iter_items c.next.new.self in
    let is = c.loop-outcome.invariant in
    let desk = c.loop-outcome.self in
    let first = first_left c.args.outcomes.items c.loop-outcome.place c.in-Some.outcome left (sym c.in-Some.ensures.steps.0 ∙ is.rest) in
    let count = ap length c.in-Some.ensures.steps.0 in
    let low : c.loop-outcome.place < desk.places = omega (arith, count, is.count, is.places, c.requires, c.args.outcomes.ok.0) in
    let next = next_arrived desk c.args.outcomes.items c.loop-outcome.place (length left) c.in-Some.outcome low first.0 in
    let was = rw c.in-Some.ensures.steps.0 at is.rows in
    record {
      places = c.arrive.ensures.places ∙ is.places;
      rows = rw c.arrive.ensures.rows (next ∙ was);
      rest = first.1;
      count = omega (arith, count, is.count);
    }

pub returns-clause-rows : goal.returns-clause-rows
returns-clause-rows c =
    let left = into_iter_items c.loop-outcome.outcome-iterator in
    let none : length left ≡ 0 = sym c.loop-outcome.outcome-iterator.rest.ok.0 ∙ c.in-None.ensures.steps.0 in
    let rows = rw none at c.loop-outcome.invariant.rows in
    sym (append-nil c.loop-outcome.self.rows) ∙ rows

pub returns-clause-whole : goal.returns-clause-whole
returns-clause-whole c =
    let whole = shown_whole c.self.inside c.args.self.now c.self.invariant c.self.view_is in
    arrived_whole c.args.self.now c.loop-outcome.self c.args.outcomes.items (sym c.args.outcomes.ok.0 ∙ c.requires) c.loop-outcome.invariant.places (returns-clause-rows c) whole
