use Rattle.std.proofs.Common.{[], codes}
use Rattle.mimic_printer.proofs.Adding.{adds_nothing, adds_then}
use Rattle.mimic_reports.specs.Junit.{stop_text}
use Rattle.mimic_reports.proofs.junit_elements.add_stop.Goals as goal

pub returns : goal.returns
unfolding stop_text
returns g c =
    adds_then _ _ c.add_pieces.ensures (adds_then _ _ c.add_cut.ensures (adds_then (codes "\"/></testcase>\n") [] c.add.ensures (adds_nothing _)))
