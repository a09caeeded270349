use Rattle.std.proofs.Common.{[], codes}
use Rattle.mimic_printer.proofs.Adding.{adds_nothing, adds_then}
use Rattle.mimic_reports.specs.Page.{stop_text}
use Rattle.mimic_reports.proofs.page_elements.add_stop.Goals as goal

pub returns : goal.returns
unfolding stop_text
returns g c =
    let extent = rw c.from.ensures at c.add_extent.ensures in
    adds_then (codes "<p class=\"cut\">") _ c.add.ensures (adds_then _ _ extent
    (adds_then _ _ c.add_missing.ensures (adds_then _ _ c.add_running.ensures (adds_then (codes "</p>\n") [] c.add-2.ensures (adds_nothing _)))))
