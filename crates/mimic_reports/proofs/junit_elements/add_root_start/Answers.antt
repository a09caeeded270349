use Rattle.mimic_printer.proofs.Adding.{adds_then}
use Rattle.mimic_reports.specs.Junit.{root_start}
use Rattle.mimic_reports.proofs.junit_elements.add_root_start.Goals as goal

pub returns : goal.returns
unfolding root_start
returns g c = adds_then _ _ c.add.ensures c.add_numbers.ensures
