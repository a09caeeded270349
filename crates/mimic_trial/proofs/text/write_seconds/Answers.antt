use Rattle.std.proofs.Common.{rules, ◌≡◌, ◌∙◌, ◌++◌, ◌/◌, ◌%◌, ◌^◌, arith, length, true, false, eqb, [], ◌∷◌, ap, append-nil, append_assoc, decimal}
use Rattle.std.proofs.Math.Seq.{take-append_seam}
use Rattle.mimic_trial.specs.Seconds.{exact_seconds, fraction_digits}
use Rattle.mimic_trial.proofs.ExactSeconds.{point_behind, whole_short}
use Rattle.mimic_trial.proofs.text.write_seconds.Goals as goal

pub returns-then-rest-eq0-clause-written : goal.returns-then-rest-eq0-clause-written
unfolding exact_seconds
returns-then-rest-eq0-clause-written c =
    let whole : c.as_bytes-whole.result.now ≡ decimal (c.args.nanos / 10 ^ 9) = c.as_bytes-whole.ensures.value ∙ c.format.ensures.text in
    let copied : c.copy_from_slice.new.self ≡ c.as_bytes-whole.result.now = c.copy_from_slice.ensures.after in
    let none : eqb (c.args.nanos % 10 ^ 9) 0 ≡ true = search rules in
    rw (copied, none, append-nil (decimal (c.args.nanos / 10 ^ 9))) (take-append_seam c.as_bytes-whole.result.now _ ∙ whole)

pub returns-clause-written : goal.returns-clause-written
unfolding exact_seconds
returns-clause-written c =
    let front = c.as_bytes-whole.result.now in
    let whole : front ≡ decimal (c.args.nanos / 10 ^ 9) = c.as_bytes-whole.ensures.value ∙ c.format.ensures.text in
    let copied : c.copy_from_slice.new.self ≡ front = c.copy_from_slice.ensures.after in
    let some : eqb (c.args.nanos % 10 ^ 9) 0 ≡ false = search rules in
    let fraction = fraction_digits 9 (c.args.nanos % 10 ^ 9) in
    let pointed = rw copied at c.write_fraction.ensures.written in
    rw some (pointed ∙ ap (λ l. l ++ fraction) (point_behind front _ (search rules) (search rules)) ∙ append_assoc front (46 ∷ []) fraction ∙ ap (λ l. l ++ 46 ∷ fraction) whole)

pub returns-then-rest-eq0-clause-within : goal.returns-then-rest-eq0-clause-within
returns-then-rest-eq0-clause-within c =
    let whole = c.as_bytes-whole.ensures.value ∙ c.format.ensures.text in
    omega (arith, ap length whole, whole_short c.args.nanos c.ranges.nanos.fits)

pub returns-clause-within : goal.returns-clause-within
returns-clause-within c =
    let whole = c.as_bytes-whole.ensures.value ∙ c.format.ensures.text in
    omega (arith, ap length whole, whole_short c.args.nanos c.ranges.nanos.fits, c.write_fraction.ensures.within)
