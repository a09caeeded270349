use Rattle.std.proofs.Common.{[], codes}
use Rattle.mimic_printer.proofs.Adding.{adds_nothing, adds_then}
use Rattle.mimic_reports.proofs.show.add_cut_line.Goals as goal

pub returns : goal.returns
returns g c = adds_then (codes "\n") _ c.add.ensures (adds_then _ _ c.add_cut.ensures (adds_then (codes "\n") [] c.add-2.ensures (adds_nothing _)))
