-- The rows so far were added.
use Rattle.std.specs.Prelude.{take}
use Rattle.std.specs.List.{flat_map}
use Rattle.mimic_printer.specs.Sink.{Adds}
use Rattle.mimic_events.specs.Contents.{entry_read}
use Rattle.mimic_reports.specs.Junit.{case_text}
use Rattle.mimic_reports.proofs.junit.add_rows.Given as goal

abbrev pub invariant-loop-row : goal.invariant-loop-row
invariant-loop-row g l = Adds g.W.Write.contents l.initial.sink l.sink (flat_map (λ row. case_text l.program (entry_read row)) (take l.row-index l.rows))
