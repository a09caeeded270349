use Rattle.std.proofs.Common.{◌-◌, [], ap, ◌∙◌}
use Rattle.mimic_trial.specs.declared.outcome.Conclusion.{Conclusion}
use Rattle.mimic_printer.proofs.Adding.{adds_nothing, adds_then}
use Rattle.mimic_reports.proofs.Pages.{groups_are}
use Rattle.mimic_reports.specs.Page.{bar_of}
use Rattle.mimic_reports.proofs.page.add_groups.Goals as goal

pub returns : goal.returns
returns g c =
    let long = c.bar_of-longest.ensures ∙ ap bar_of c.greatest_time.ensures in
    let left = c.saturating_sub-left.ensures ∙ ap (λ (k : Conclusion). c.args.most - k.num_measured) c.counts_of_rows.ensures in
    rw (← groups_are c.args.rows.now c.args.most c.bar_of-longest.result c.saturating_sub-left.result long left)
    (adds_then _ _ c.add_group.ensures (adds_then _ _ c.add_group-2.ensures (adds_then _ [] c.add_group-3.ensures (adds_nothing _))))
