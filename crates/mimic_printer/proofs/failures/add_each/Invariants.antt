use Rattle.std.proofs.Common.{take}
use Rattle.std.specs.List.{flat_map}
use Rattle.mimic_printer.specs.Failures.{row_part}
use Rattle.mimic_printer.specs.Sink.{Adds}
use Rattle.mimic_printer.proofs.failures.add_each.Given as goal

abbrev pub invariant-loop-number : goal.invariant-loop-number
invariant-loop-number g l = Adds g.W.Write.contents l.initial.sink l.sink (flat_map (row_part l.part) (take l.number (g.R.ShownRows.rows_of l.rows)))
