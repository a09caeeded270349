-- The lines so far were added.
use Rattle.std.specs.Prelude.{take}
use Rattle.std.specs.List.{flat_map}
use Rattle.mimic_printer.specs.Sink.{Adds}
use Rattle.mimic_reports.specs.Slowest.{line_text, timed_read}
use Rattle.mimic_reports.proofs.slowest.add_lines.Given as goal

abbrev pub invariant-loop-row : goal.invariant-loop-row
invariant-loop-row g l = Adds g.W.Write.contents l.initial.sink l.sink (flat_map (λ row. line_text (timed_read row)) (take l.row-index l.rows))
