use Rattle.std.specs.Prelude.{◌≡◌, ℕ, ◌-◌, ◌<◌, ◌≤◌, slice_index_or}
use Rattle.mimic_events.specs.declared.report.Report.{Report}
use Rattle.mimic_join.specs.Joined.{FallsByOne, trials_in}
use Rattle.mimic_join.proofs.join.uneven.Given as goal

abbrev pub invariant-loop-place : goal.invariant-loop-place
invariant-loop-place l = record {
  first : (d : Report) → 0 < l.place → l.first ≡ trials_in (slice_index_or l.reports 0 d);
  last : (d : Report) → 0 < l.place → l.last ≡ trials_in (slice_index_or l.reports (l.place - 1) d);
  between : (k : ℕ) (d : Report) → k < l.place → l.last ≤ trials_in (slice_index_or l.reports k d);
  below : (k : ℕ) (d : Report) → k < l.place → trials_in (slice_index_or l.reports k d) ≤ l.first;
  pairs : (i j : ℕ) (d : Report) → i < j → j < l.place → FallsByOne (slice_index_or l.reports i d) (slice_index_or l.reports j d);
}
