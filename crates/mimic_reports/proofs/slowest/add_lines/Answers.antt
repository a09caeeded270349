use Rattle.std.proofs.Common.{◌∙◌, sym}
use Rattle.mimic_printer.proofs.Adding.{adds_next, adds_rest}
use Rattle.mimic_reports.specs.declared.slowest.TimedRow.{TimedRow}
use Rattle.mimic_reports.specs.Slowest.{line_text, timed_read}
use Rattle.mimic_reports.proofs.slowest.add_lines.Goals as goal

pub loop-row-preserved : goal.loop-row-preserved
loop-row-preserved g c =
    adds_next (λ (row : TimedRow). line_text (timed_read row)) c.args.rows.now c.loop-row.row-index c.row-item.result c.loop-row-test.true c.loop-row.invariant
    (rw c.row-item.is at c.add_line.ensures)

pub returns-then-has_fault : goal.returns-then-has_fault
returns-then-has_fault g c =
    adds_rest (λ (row : TimedRow). line_text (timed_read row)) c.args.rows.now c.loop-row.row-index (sym c.has_fault.ensures ∙ c.if-has_fault.true) c.loop-row.invariant
