-- The heading and the rows so far were added.
use Rattle.mimic_reports.proofs.Pages.{RowsAdded}
use Rattle.mimic_reports.proofs.page.add_group.Given as goal

abbrev pub invariant-loop-row : goal.invariant-loop-row
invariant-loop-row g l = RowsAdded l.listing l.rows g.W.Write.contents l.fn.sink l.sink l.row-index l.found
