use Rattle.std.specs.Prelude.{◌≡◌, map, take}
use Rattle.mimic_join.specs.Joined.{filtered_out_of, greatest, time_of}
use Rattle.mimic_join.proofs.join.totals.Given as goal

abbrev pub invariant-loop-report : goal.invariant-loop-report
invariant-loop-report l = record {
  filtered_out : l.filtered_out ≡ filtered_out_of (take l.report-index l.reports);
  nanos : l.nanos ≡ greatest (map time_of (take l.report-index l.reports));
}
