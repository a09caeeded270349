use Rattle.std.specs.Prelude.{All, take}
use Rattle.std.specs.List.{flat_map}
use Rattle.mimic_printer.specs.Sink.{Adds}
use Rattle.mimic_events.specs.Written.{FitsRow, row_lines}
use Rattle.mimic_events.proofs.write.add_rows.Given as goal

abbrev pub invariant-loop-row : goal.invariant-loop-row
invariant-loop-row g l = record {
  written : Adds g.W.Write.contents l.initial.sink l.sink (flat_map row_lines (take l.row-index l.rows));
  fits : All FitsRow (take l.row-index l.rows);
}
