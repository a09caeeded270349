use Rattle.std.proofs.Common.{[], codes}
use Rattle.mimic_printer.proofs.Adding.{adds_nothing, adds_then}
use Rattle.mimic_reports.specs.Page.{row_start}
use Rattle.mimic_reports.proofs.page_row.add_row_start.Goals as goal

pub returns : goal.returns
unfolding row_start
returns g c =
    let class = rw c.row_class.ensures at c.add-2.ensures in
    let word = rw c.row_word.ensures at c.add-3.ensures in
    adds_then (codes "<li id=\"") _ c.add.ensures
    (adds_then _ _ c.add_id.ensures (adds_then _ _ class (adds_then _ _ c.add_id-2.ensures (adds_then _ [] word (adds_nothing _)))))
