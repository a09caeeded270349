use Rattle.std.proofs.Common.{◌≡◌, refl, rules, subst}
use Rattle.std.proofs.lemmas.Fn.{fold_over, fronts, slice_gives}
use Rattle.mimic_printer.specs.Row.{label_of, labels_of}
use Rattle.mimic_trial.specs.Trial.{info_of}
use Rattle.mimic_printer.specs.Widths.{name_width_of, kind_width_of, name_chars, kind_chars}
use Rattle.mimic_printer.proofs.Characters.{widest-push}
use Rattle.mimic_printer.proofs.columns.widths_of_trials.Goals as goal

pub returns-clause-names : goal.returns-clause-names
returns-clause-names g c = subst (λ l. c.fold.result.0 ≡ name_width_of (labels_of l)) c.iter.ensures.rest
    (fold_over fronts (λ y. y.now) _ (λ trials w. w.0 ≡ name_width_of (labels_of trials)) _
    (λ trials a x b f' so_far k. let more = widest-push (λ t. label_of (info_of t)) name_chars trials x.now a.0 b.0 so_far in search rules)
    _ _ _ _ (slice_gives c.iter.result) refl c.fold.ensures.ran)

pub returns-clause-kinds : goal.returns-clause-kinds
returns-clause-kinds g c = subst (λ l. c.fold.result.1 ≡ kind_width_of (labels_of l)) c.iter.ensures.rest
    (fold_over fronts (λ y. y.now) _ (λ trials w. w.1 ≡ kind_width_of (labels_of trials)) _
    (λ trials a x b f' so_far k. let more = widest-push (λ t. label_of (info_of t)) kind_chars trials x.now a.1 b.1 so_far in search rules)
    _ _ _ _ (slice_gives c.iter.result) refl c.fold.ensures.ran)
