use Rattle.std.proofs.Common.{◌*◌, arith, rules}
use Rattle.mimic_events.proofs.Digits.{fraction_found, fraction_over, fraction_wrong, no_point}
use Rattle.mimic_events.proofs.numbers.fraction_at.Goals as goal
use Rattle.mimic_events.proofs.numbers.fraction_at.Goals.{then-is_empty-via-then-is_empty, then-is_empty-via-else-is_empty+then-digits-gt9, then-is_empty-via-else-is_empty+else-digits-gt9+then-digits-eq48}

pub returns-in_default : goal.returns-in_default
returns-in_default c = no_point c.args.bytes.now c.in_default.ensures

pub returns-in_err-digits : goal.returns-in_err-digits
returns-in_err-digits c = rw c.from_residual.ensures (fraction_over c.args.bytes.now c.in-Some.rest.now c.in-Some.ensures c.in_err-digits.ensures)

pub returns-then-is_empty : goal.returns-then-is_empty
returns-then-is_empty c = fraction_wrong c.args.bytes.now c.in-Some.rest.now c.in-Some.ensures c.in_ok-digits.digits.now c.in_ok-digits.rest.now c.in_ok-digits.ensures.2 (λ n f.
    elim c.then-is_empty.branch [
      | then-is_empty-via-then-is_empty w ↦ search (rules, f.numeral.0)
      | then-is_empty-via-else-is_empty+then-digits-gt9 w ↦ omega (arith, f.short, w.if-digits-gt9.true)
      | then-is_empty-via-else-is_empty+else-digits-gt9+then-digits-eq48 w ↦ f.last w.if-digits-eq48.true
    ])

pub returns : goal.returns
returns c = fraction_found c.args.bytes.now c.in-Some.rest.now c.in-Some.ensures c.in_ok-digits.digits.now c.in_ok-digits.rest.now c.in_ok-digits.ensures.2 (c.in_ok-digits.value * c.pow.result)
    (record {
      numeral = (search rules, c.in_ok-digits.ensures.2.digits);
      short = c.if-digits-gt9.false;
      last = c.if-digits-eq48.false;
      value = search rules;
    })
