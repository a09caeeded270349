use Rattle.std.proofs.Common.{◌-◌, ◌≤◌, drop, map, take}
use Rattle.libtest_mimic.specs.Prelude.{AddsRows, AreTimed, is_timed, label_of, rows_at}
use Rattle.libtest_mimic.proofs.running.arrivals.add_missing.Given as goal

abbrev pub invariant-loop-number : goal.invariant-loop-number
invariant-loop-number g l = record {
  from : l.fn.first ≤ l.number;
  added : AddsRows g.W.Write.contents l.printer
      (AreTimed (is_timed l.inbox) (take (l.number - l.fn.first) (drop l.fn.first (rows_at (map label_of l.infos) l.desk.rows))))
      l.initial.sink l.sink;
}
