use Rattle.std.proofs.Common.{rules, ◌≡◌, ◌≤◌, get_or, drop, arith, add-zero, below_more, sym}
use Rattle.std.specs.Int.{IsInRange}
use Rattle.std.proofs.lemmas.List.{get_or-drop, get_or_past, take-append-drop}
use Rattle.mimic_events.proofs.Digits.{ends_at, front_digits, one_more, too_large}
use Rattle.mimic_events.proofs.numbers.digits_at.Goals as goal
use Rattle.mimic_events.proofs.numbers.digits_at.Goals.{then-loop-len-test+else-is_ascii_digit, else-loop-len-test}

pub returns-in_err-checked_mul : goal.returns-in_err-checked_mul
returns-in_err-checked_mul c =
    let over = c.in_err-checked_mul.ensures in
    rw c.from_residual.ensures (too_large c.args.bytes.now c.loop-len.len c.loop-len-test.true c.loop-len.invariant.digits c.if-is_ascii_digit.ensures.cases
    (omega (arith, over, c.loop-len.invariant.value)))

pub returns-in_err-number : goal.returns-in_err-number
returns-in_err-number c =
    let over = c.in_err-number.ensures in
    rw c.from_residual-in_err-number.ensures (too_large c.args.bytes.now c.loop-len.len c.loop-len-test.true c.loop-len.invariant.digits c.if-is_ascii_digit.ensures.cases
    (omega (arith, over, c.in_ok-checked_mul.ensures.1, c.from.ensures, c.loop-len.invariant.value)))

pub loop-len-preserved : goal.loop-len-preserved
loop-len-preserved c = record {
  within = omega arith;
  digits = below_more (λ i. IsInRange 48 57 (get_or c.args.bytes.now i 0)) c.loop-len.len c.loop-len.invariant.digits c.if-is_ascii_digit.ensures.cases;
  fits = omega (arith, c.in_ok-number.ensures);
  value = omega (
    arith,
    one_more c.args.bytes.now c.loop-len.len c.loop-len-test.true c.if-is_ascii_digit.ensures.cases,
    c.in_ok-number.ensures.1,
    c.in_ok-checked_mul.ensures.1,
    c.from.ensures,
    c.loop-len.invariant.value,
  );
}

pub returns : goal.returns
returns c =
    let stop : (48 ≤ get_or c.args.bytes.now c.loop-len.len 0) → (get_or c.args.bytes.now c.loop-len.len 0 ≤ 57) → ⊥ =
    elim c.loop-len-test.branch [
      | then-loop-len-test+else-is_ascii_digit w ↦ λ a b. search rules
      | else-loop-len-test w ↦ λ a b. let past : get_or c.args.bytes.now c.loop-len.len 0 ≡ 0 = get_or_past c.args.bytes.now c.loop-len.len 0 (omega arith) in absurd (omega arith)
    ] in
    rw (c.split_at.ensures.front, c.split_at.ensures.back) (
      c.loop-len.invariant.fits,
      c.loop-len.invariant.value,
      record {
        parts = sym (take-append-drop c.loop-len.len c.args.bytes.now);
        digits = front_digits c.args.bytes.now c.loop-len.len c.loop-len.invariant.within c.loop-len.invariant.digits;
        stop = ends_at (drop c.loop-len.len c.args.bytes.now) (rw (get_or-drop c.loop-len.len c.args.bytes.now 0 0, add-zero) stop);
      },
    )
