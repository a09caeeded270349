-- The characters so far were added, and fit.
use Rattle.std.proofs.Common.{◌≡◌, ◌+◌}
use Rattle.mimic_printer.specs.Sink.{Adds}
use Rattle.mimic_watch.specs.Frames.{columns_of, marks}
use Rattle.mimic_watch.proofs.frame.add_fitting.Given as goal

abbrev pub invariant-loop-c : goal.invariant-loop-c
invariant-loop-c g l = record {
  room : l.room + columns_of l.yielded ≡ l.columns;
  shown : Adds g.W.Write.contents l.initial.sink l.sink (marks l.yielded);
}
