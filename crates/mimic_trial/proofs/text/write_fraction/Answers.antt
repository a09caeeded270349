use Rattle.std.proofs.Common.{◌≡◌, ◌+◌, ◌-◌, ◌/◌, ◌%◌, ◌++◌, ◌<◌, [], ◌∷◌, take, append_assoc, append-nil, arith, ap, sym, ◌∙◌}
use Rattle.std.proofs.lemmas.List.{take_more_set}
use Rattle.mimic_trial.specs.Seconds.{fraction_digits}
use Rattle.mimic_trial.proofs.ExactSeconds.{digit_taken, fraction_digits-more, none_left, place_left, unit_fits}
use Rattle.mimic_trial.proofs.text.write_fraction.Goals as goal

pub pow-unit-requires : goal.pow-unit-requires
pow-unit-requires c = unit_fits c.loop-left.places c.loop-left.invariant.few

pub nonzero_div-buf : goal.nonzero_div-buf
nonzero_div-buf c = (digit_taken _ _ _ c.loop-left-test.true c.loop-left.invariant.below c.pow-unit.ensures).some

pub overflow_cast-buf : goal.overflow_cast-buf
overflow_cast-buf c = let d = digit_taken _ _ _ c.loop-left-test.true c.loop-left.invariant.below c.pow-unit.ensures in omega (arith, d.digit)

pub overflow_add-buf : goal.overflow_add-buf
overflow_add-buf c = let d = digit_taken _ _ _ c.loop-left-test.true c.loop-left.invariant.below c.pow-unit.ensures in omega (arith, d.digit)

pub nonzero_rem-left : goal.nonzero_rem-left
nonzero_rem-left c = (digit_taken _ _ _ c.loop-left-test.true c.loop-left.invariant.below c.pow-unit.ensures).some

pub loop-left-preserved : goal.loop-left-preserved
loop-left-preserved c =
    let k = c.loop-left.places in
    let left = c.loop-left.left in
    let d = digit_taken _ _ _ c.loop-left-test.true c.loop-left.invariant.below c.pow-unit.ensures in
    let some : 0 < k = place_left k left c.loop-left.invariant.below c.loop-left-test.true in
    let room : c.loop-left.at < 32 = omega (arith, c.loop-left.invariant.end, c.requires.room) in
    let digit = 48 + left / c.pow-unit.result in
    let taken = take_more_set c.loop-left.buf c.loop-left.at digit (omega (arith, room)) in
    let more : fraction_digits k left ≡ digit ∷ fraction_digits (k - 1) (left % c.pow-unit.result) = rw c.pow-unit.ensures (fraction_digits-more k left c.loop-left-test.true c.loop-left.invariant.below) in
    record {
      few = omega (arith, c.loop-left.invariant.few);
      end = omega (arith, c.loop-left.invariant.end, some);
      below = d.below;
      written = ap (λ l. l ++ fraction_digits (k - 1) (left % c.pow-unit.result)) taken
          ∙ append_assoc (take c.loop-left.at c.loop-left.buf) (digit ∷ []) (fraction_digits (k - 1) (left % c.pow-unit.result))
          ∙ ap (λ l. take c.loop-left.at c.loop-left.buf ++ l) (sym more) ∙ c.loop-left.invariant.written;
    }

pub returns-clause-written : goal.returns-clause-written
returns-clause-written c =
    let none = ap (fraction_digits c.loop-left.places) (omega (arith, c.loop-left-test.false)) ∙ none_left c.loop-left.places in
    sym (append-nil (take c.loop-left.at c.loop-left.buf)) ∙ ap (λ l. take c.loop-left.at c.loop-left.buf ++ l) (sym none) ∙ c.loop-left.invariant.written
