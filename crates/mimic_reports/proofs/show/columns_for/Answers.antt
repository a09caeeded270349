use Rattle.std.proofs.Common.{◌≡◌, List, map, refl, rules, subst}
use Rattle.std.proofs.lemmas.Fn.{fold_over, fronts, slice_gives}
use Rattle.mimic_printer.specs.Row.{label_of}
use Rattle.mimic_printer.specs.Widths.{name_width_of, kind_width_of, name_chars, kind_chars}
use Rattle.mimic_printer.proofs.Characters.{widest-push}
use Rattle.mimic_reports.specs.declared.show.KeptRow.{KeptRow}
use Rattle.mimic_reports.proofs.show.columns_for.Goals as goal

pub returns-clause-names : goal.returns-clause-names
returns-clause-names c = subst (λ (l : List KeptRow). c.fold.result.0 ≡ name_width_of (map (λ row. label_of row.info) l)) c.iter.ensures.rest
    (fold_over fronts (λ y. y.now) _ (λ rows w. w.0 ≡ name_width_of (map (λ (row : KeptRow). label_of row.info) rows)) _
    (λ rows a x b f' so_far k. let more = widest-push (λ (row : KeptRow). label_of row.info) name_chars rows x.now a.0 b.0 so_far in search rules)
    _ _ _ _ (slice_gives c.iter.result) refl c.fold.ensures.ran)

pub returns-clause-kinds : goal.returns-clause-kinds
returns-clause-kinds c = subst (λ (l : List KeptRow). c.fold.result.1 ≡ kind_width_of (map (λ row. label_of row.info) l)) c.iter.ensures.rest
    (fold_over fronts (λ y. y.now) _ (λ rows w. w.1 ≡ kind_width_of (map (λ (row : KeptRow). label_of row.info) rows)) _
    (λ rows a x b f' so_far k. let more = widest-push (λ (row : KeptRow). label_of row.info) kind_chars rows x.now a.1 b.1 so_far in search rules)
    _ _ _ _ (slice_gives c.iter.result) refl c.fold.ensures.ran)
