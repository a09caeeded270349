use Rattle.std.specs.Prelude.{ℕ, ◌<◌, slice_index_or, take}
use Rattle.std.specs.List.{flat_map}
use Rattle.mimic_events.specs.declared.report.Report.{Report}
use Rattle.mimic_events.specs.Key.{HasTrials}
use Rattle.mimic_join.specs.Joined.{HaveOwnNames, labels_in}
use Rattle.mimic_join.proofs.join.named_twice.Given as goal

abbrev pub invariant-loop-place : goal.invariant-loop-place
invariant-loop-place g l = record {
  seen : HasTrials l.seen (flat_map labels_in (take l.place l.reports));
  pairs : (i j : ℕ) (d : Report) → i < j → j < l.place → HaveOwnNames (slice_index_or l.reports i d) (slice_index_or l.reports j d);
}
