use Rattle.std.proofs.Common.{◌≡◌, ◌<◌, ◌≤◌, get_or, length, sym, ◌∙◌, arith, rules}
use Rattle.std.proofs.lemmas.Bool.{eqb-false, eqb-true, ltb-true}
use Rattle.mimic_events.proofs.Digits.{number_found, number_is, number_none, number_over, spelled_well}
use Rattle.mimic_events.proofs.numbers.number_at.Goals as goal
use Rattle.mimic_events.proofs.numbers.number_at.Goals.{then-is_empty-via-then-is_empty, then-is_empty-via-else-is_empty+then-digits-eq48, then-digits-gt1, else-digits-gt1}

pub returns-in_err-digits : goal.returns-in_err-digits
returns-in_err-digits c = rw c.from_residual.ensures (number_over c.args.bytes.now c.in_err-digits.ensures)

pub returns-then-is_empty : goal.returns-then-is_empty
returns-then-is_empty c = number_none c.args.bytes.now c.in_ok-digits.digits.now c.in_ok-digits.rest.now c.in_ok-digits.ensures.2 (λ n h.
    let well = spelled_well c.in_ok-digits.digits.now n h in
    elim c.then-is_empty.branch [
      | then-is_empty-via-then-is_empty w ↦ search (rules, well.0)
      | then-is_empty-via-else-is_empty+then-digits-eq48 w ↦ elim w.if-digits-gt1.branch [
        | then-digits-gt1 w' ↦ well.1 w'.if-digits-gt1.true (eqb-true _ 48 (sym w'.value-is ∙ w.if-digits-eq48.true))
        | else-digits-gt1 w' ↦ let long = ltb-true 1 (length c.in_ok-digits.digits.now) (sym w'.value-is ∙ w.if-digits-eq48.true) in omega (arith, long, w'.if-digits-gt1.false)
      ]
    ])

pub returns : goal.returns
returns c =
    let digits = c.in_ok-digits.digits.now in
    let plain : get_or digits 0 0 ≡ 48 → length digits ≤ 1 = λ e. elim c.if-digits-gt1.branch [
      | then-digits-gt1 w ↦ absurd (eqb-false _ 48 (sym w.value-is ∙ c.if-digits-eq48.false) e)
      | else-digits-gt1 w ↦ omega (arith, w.if-digits-gt1.false)
    ] in
    let some : 0 < length digits = search rules in
    number_found c.args.bytes.now digits c.in_ok-digits.rest.now c.in_ok-digits.number c.in_ok-digits.ensures.2
    (number_is digits c.in_ok-digits.number (some, c.in_ok-digits.ensures.2.digits) plain c.in_ok-digits.ensures.0 c.in_ok-digits.ensures.1)
