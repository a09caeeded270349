use Rattle.std.proofs.Common.{◌≡◌, ◌∙◌, true, false, ap, arith, get_or, inl, inr, subst, sym}
use Rattle.std.specs.Prelude.{Contains}
use Rattle.std.proofs.lemmas.Bool.{cases_lt}
use Rattle.std.proofs.lemmas.List.{get_or_default}
use Rattle.std.proofs.lemmas.Map.Made.{is_member-Decides}
use Rattle.mimic_events.specs.Key.{label_in}
use Rattle.mimic_events.specs.declared.key.Key.TheVariants.{Trial}
use Rattle.mimic_events.proofs.Keys.{at_row, same_label-decides}
use Rattle.mimic_join.proofs.join.seen_row.Goals as goal

pub returns-then-contains : goal.returns-then-contains
returns-then-contains g c = λ labels has.
    let row = c.index-rows-place.result in
    let in_labels = (is_member-Decides same_label-decides labels (label_in row)).0 (sym (has (Trial (at_row row))) ∙ (sym c.contains.ensures ∙ c.if-contains.true)) in
    (c.loop-place-test.true, λ d. subst (λ row. Contains labels (label_in row)) (c.index-rows-place.is ∙ get_or_default c.args.rows.now c.loop-place.place c.index-rows-place.result d c.loop-place-test.true) in_labels)

pub loop-place-preserved : goal.loop-place-preserved
loop-place-preserved g c = λ labels has k d lt found.
    elim (cases_lt k c.loop-place.place) [
      | inl before ↦ c.loop-place.invariant labels has k d before found
      | inr le ↦
          let here : c.loop-place.place ≡ k = omega (arith, le, lt) in
          let same : get_or c.args.rows.now k d ≡ c.index-rows-place.result =
          ap (λ n. get_or c.args.rows.now n d) (sym here) ∙ sym (c.index-rows-place.is ∙ get_or_default c.args.rows.now c.loop-place.place c.index-rows-place.result d c.loop-place-test.true) in
          let row = c.index-rows-place.result in
          let yes : c.contains.result ≡ true = c.contains.ensures ∙ (has (Trial (at_row row)) ∙ (is_member-Decides same_label-decides labels (label_in row)).1 (subst (λ row. Contains labels (label_in row)) same found)) in
          let no : c.contains.result ≡ false = c.if-contains.false in
          cc
    ]

pub returns : goal.returns
returns g c = λ labels has k d lt. c.loop-place.invariant labels has k d (omega (arith, lt, c.loop-place-test.false))
