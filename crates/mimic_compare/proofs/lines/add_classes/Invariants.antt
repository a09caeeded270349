use Rattle.std.proofs.Common.{take}
use Rattle.std.specs.List.{flat_map}
use Rattle.mimic_printer.specs.Sink.{Adds}
use Rattle.mimic_compare.specs.Text.{classes, listed_lines}
use Rattle.mimic_compare.proofs.lines.add_classes.Given as goal

abbrev pub invariant-loop-class : goal.invariant-loop-class
invariant-loop-class g l = Adds g.W.Write.contents l.initial.sink l.sink (flat_map (listed_lines l.lists_not_run l.found) (take l.class-index classes))
