use Rattle.std.proofs.Common.{take}
use Rattle.std.specs.List.{flat_map}
use Rattle.mimic_printer.specs.Sink.{Adds}
use Rattle.mimic_compare.specs.Text.{classes, number_text}
use Rattle.mimic_compare.proofs.lines.add_numbers.Given as goal

abbrev pub invariant-loop-class : goal.invariant-loop-class
invariant-loop-class g l = Adds g.W.Write.contents l.initial.sink l.sink (flat_map (number_text l.found) (take l.class-index classes))
