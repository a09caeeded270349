use Rattle.std.proofs.Common.{take}
use Rattle.std.specs.List.{flat_map}
use Rattle.mimic_printer.specs.Sink.{Adds}
use Rattle.mimic_compare.specs.Text.{line_in}
use Rattle.mimic_compare.proofs.lines.add_lines.Given as goal

abbrev pub invariant-loop-comparison : goal.invariant-loop-comparison
invariant-loop-comparison g l = Adds g.W.Write.contents l.initial.sink l.sink (flat_map (line_in l.class) (take l.comparison-index l.found))
