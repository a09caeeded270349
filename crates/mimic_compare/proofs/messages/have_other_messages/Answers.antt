use Rattle.std.proofs.Common.{◌∙◌, refl, sym}
use Rattle.std.proofs.lemmas.List.Folds.{list_any-append}
use Rattle.mimic_compare.specs.Classes.{is_other}
use Rattle.mimic_compare.proofs.messages.have_other_messages.Goals as goal
use Rattle.mimic_compare.proofs.messages.have_other_messages.Goals.{then-are_other, else-are_other}

pub returns : goal.returns
returns g c =
    let old = c.args.old.now in
    let new = c.args.new.now in
    let test = is_other old new in
    let first = c.are_other.ensures old new c.in_ok-old_counts.ensures c.in_ok-new_counts.ensures in
    let all = list_any-append test old new in
    elim c.if-are_other.branch [
      | then-are_other w ↦ w.result-is ∙ sym (rw (all, ← first, w.if-are_other.true) refl)
      | else-are_other w ↦
          w.result-is ∙ w.are_other-else-are_other.ensures old new c.in_ok-old_counts.ensures c.in_ok-new_counts.ensures
          ∙ sym (rw (all, ← first, w.if-are_other.false) refl)
    ]
