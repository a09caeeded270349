use Rattle.std.proofs.Common.{◌≡◌, ◌++◌, ◌∷◌, [], ℕ, arith, ◌∙◌, ap, refl, slice_index_or}
use Rattle.mimic_trial.specs.declared.outcome.Outcome.TheVariants.{Passed, Ignored}
use Rattle.mimic_pool.proofs.Elements.{all_same}
use Rattle.mimic_pool.proofs.Numbering.{distinct_none}
use Rattle.mimic_pool.proofs.desk.Desk.new.Goals as goal

pub invariant_of-result : goal.invariant_of-result
invariant_of-result c =
    let order = c.in_ok-order.ensures.items in
    let outcomes : c.push_reserved-2.new.self.items ≡ Passed ∷ Ignored ∷ [] = c.push_reserved-2.ensures.items ∙ (ap (λ l. l ++ Ignored ∷ []) c.push_reserved.ensures.items ∙ ap (λ l. (l ++ Passed ∷ []) ++ Ignored ∷ []) c.in_ok-outcomes.ensures.items) in
    let zeros : (p : ℕ) → slice_index_or c.in_ok-numbers.numbers.items p 0 ≡ 0 = λ p. ap (λ l. slice_index_or l p 0) (c.in_ok-numbers.ensures.items_if_clones_equal (λ y is. is)) ∙ all_same 0 c.args.n p in
    let len = c.in_ok-numbers.ensures.len in
    record {
      taken = λ p. rw (order, zeros p) refl;
      distinct = rw order distinct_none;
      begins = rw outcomes (record { passed = refl; ignored = refl });
      found = λ p. omega (arith, zeros p);
      few = rw (outcomes, order) (omega arith);
      outcomes_room = omega (
        arith,
        len,
        c.in_ok-numbers.numbers.ok,
        c.in_ok-outcomes.ensures,
        c.push_reserved.ensures.capacity,
        c.push_reserved-2.ensures.capacity,
        c.in-Some.ensures,
      );
      order_room = omega (arith, len, c.in_ok-numbers.numbers.ok, c.in_ok-order.ensures);
    }
