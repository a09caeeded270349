use Rattle.std.specs.Prelude.{List, ℕ, ◌<◌, Contains, slice_index_or}
use Rattle.mimic_printer.specs.Row.{Label}
use Rattle.mimic_events.specs.declared.report.Row.{Row}
use Rattle.mimic_events.specs.Key.{HasTrials, label_in}
use Rattle.mimic_join.proofs.join.seen_row.Given as goal

abbrev pub invariant-loop-place : goal.invariant-loop-place
invariant-loop-place g l = (labels : List Label) → HasTrials l.seen labels → (k : ℕ) (d : Row) → k < l.place → ¬ Contains labels (label_in (slice_index_or l.rows k d))
