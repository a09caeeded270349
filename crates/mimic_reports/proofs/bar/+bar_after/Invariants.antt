use Rattle.mimic_reports.proofs.bar.+bar_after.Given as goal

abbrev pub decreases-bar_after : goal.decreases-bar_after
decreases-bar_after l = l.halvings
