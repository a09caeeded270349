use Rattle.std.proofs.Common.{take}
use Rattle.std.specs.List.{flat_map}
use Rattle.mimic_printer.specs.Sink.{Adds}
use Rattle.mimic_compare.specs.Text.{change_text}
use Rattle.mimic_compare.proofs.lines.add_changes.Given as goal

abbrev pub invariant-loop-change : goal.invariant-loop-change
invariant-loop-change g l = Adds g.W.Write.contents l.initial.sink l.sink (flat_map change_text (take l.change-index l.changes))
