use Rattle.std.proofs.Common.{◌∙◌, sym}
use Rattle.std.proofs.lemmas.List.{take_all}
use Rattle.mimic_printer.specs.Report.{row_text}
use Rattle.mimic_printer.proofs.Adding.{adds_more, adds_next, adds_rest, adds_then}
use Rattle.mimic_reports.specs.declared.show.KeptRow.{KeptRow}
use Rattle.mimic_reports.specs.Show.{kept_row}
use Rattle.mimic_reports.proofs.Showing.{both-parts}
use Rattle.mimic_reports.proofs.show.add_rows_and_failures.Goals as goal

pub loop-row-preserved : goal.loop-row-preserved
loop-row-preserved g c =
    adds_next (λ (row : KeptRow). row_text c.args.printer.now (kept_row row)) c.args.rows.now c.loop-row.row-index c.row-item.result c.loop-row-test.true c.loop-row.invariant
    (rw c.row-item.is at c.add_row.ensures)

pub returns-then-has_fault : goal.returns-then-has_fault
returns-then-has_fault g c =
    let kept = sym c.has_fault.ensures ∙ c.if-has_fault.true in
    rw (both-parts c.args.printer.now c.args.rows.now)
    (adds_more _ _ kept (adds_rest (λ (row : KeptRow). row_text c.args.printer.now (kept_row row)) c.args.rows.now c.loop-row.row-index kept c.loop-row.invariant))

pub returns : goal.returns
returns g c =
    let rows = rw (take_all c.loop-row.row-index c.args.rows.now c.loop-row-test.false) at c.loop-row.invariant in
    rw (both-parts c.args.printer.now c.args.rows.now) (adds_then _ _ rows c.add_failures.ensures)
