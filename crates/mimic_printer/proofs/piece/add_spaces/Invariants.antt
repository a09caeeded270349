use Rattle.std.proofs.Common.{◌≤◌, ◌-◌}
use Rattle.mimic_printer.specs.Sink.{Adds}
use Rattle.mimic_trial.specs.Text.{spaces}
use Rattle.mimic_printer.proofs.piece.add_spaces.Given as goal

abbrev pub invariant-loop-left : goal.invariant-loop-left
invariant-loop-left g l = record {
  within : l.left ≤ l.count;
  text : Adds g.W.Write.contents l.initial.sink l.sink (spaces (l.count - l.left));
}

abbrev pub decreases-loop-left : goal.decreases-loop-left
decreases-loop-left g l = l.left
