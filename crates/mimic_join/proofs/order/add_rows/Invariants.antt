use Rattle.std.specs.Prelude.{take}
use Rattle.std.specs.List.{flat_map}
use Rattle.mimic_printer.specs.Sink.{Adds}
use Rattle.mimic_events.specs.Written.{row_lines}
use Rattle.mimic_join.proofs.order.add_rows.Given as goal

abbrev pub invariant-loop-row : goal.invariant-loop-row
invariant-loop-row g l = Adds g.W.Write.contents l.initial.sink l.sink (flat_map (λ row. row_lines row.now) (take l.row-index l.rows))
