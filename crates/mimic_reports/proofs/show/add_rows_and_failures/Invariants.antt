-- The rows so far were added.
use Rattle.std.specs.Prelude.{take}
use Rattle.std.specs.List.{flat_map}
use Rattle.mimic_printer.specs.Report.{row_text}
use Rattle.mimic_printer.specs.Sink.{Adds}
use Rattle.mimic_reports.specs.Show.{kept_row}
use Rattle.mimic_reports.proofs.show.add_rows_and_failures.Given as goal

abbrev pub invariant-loop-row : goal.invariant-loop-row
invariant-loop-row g l = Adds g.W.Write.contents l.initial.sink l.sink (flat_map (λ row. row_text l.printer (kept_row row)) (take l.row-index l.rows))
