use Rattle.std.proofs.Common.{◌≡◌, ◌∙◌, [], None, Some, ap, cond, slice_get, sym}
use Rattle.std.specs.Prelude.{codes}
use Rattle.std.proofs.lemmas.Bool.{eq-eqb, ne_eqb}
use Rattle.std.specs.Option.{option_copied}
use Rattle.mimic_compare.proofs.FirstLines.{begun_line, no_line}
use Rattle.mimic_compare.proofs.lines.colon_before.Goals as goal

pub returns-in_default : goal.returns-in_default
returns-in_default c =
    let none : c.first.result ≡ None = c.in_default.is in
    let empty : slice_get c.args.message.now 0 ≡ None = ap (λ l. slice_get l 0) (sym c.as_bytes.ensures.value) ∙ sym c.first.ensures.value ∙ ap option_copied none in
    sym (no_line c.args.message.now empty)

pub returns-then-first-eq10 : goal.returns-then-first-eq10
returns-then-first-eq10 c =
    let some : slice_get c.args.message.now 0 ≡ Some c.in-Some.first.now = ap (λ l. slice_get l 0) (sym c.as_bytes.ensures.value) ∙ sym c.first.ensures.value ∙ ap option_copied c.in-Some.is in
    sym (begun_line c.args.message.now c.in-Some.first.now some ∙ ap (λ b. cond b [] (codes ": ")) (eq-eqb c.in-Some.first.now 10 c.if-first-eq10.true))

pub returns-else-first-eq10 : goal.returns-else-first-eq10
returns-else-first-eq10 c =
    let some : slice_get c.args.message.now 0 ≡ Some c.in-Some.first.now = ap (λ l. slice_get l 0) (sym c.as_bytes.ensures.value) ∙ sym c.first.ensures.value ∙ ap option_copied c.in-Some.is in
    sym (begun_line c.args.message.now c.in-Some.first.now some ∙ ap (λ b. cond b [] (codes ": ")) (ne_eqb c.in-Some.first.now 10 c.if-first-eq10.false))
