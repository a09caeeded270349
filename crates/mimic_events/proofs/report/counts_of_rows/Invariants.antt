use Rattle.std.proofs.Common.{◌≡◌, map, take}
use Rattle.mimic_trial.specs.Count.{counts_of}
use Rattle.mimic_events.proofs.report.counts_of_rows.Given as goal

abbrev pub invariant-loop-row : goal.invariant-loop-row
invariant-loop-row l = l.counts ≡ counts_of (map (λ row. row.outcome) (take l.row-index l.rows)) l.filtered_out
