use Rattle.mimic_printer.proofs.Adding.{adds_then}
use Rattle.mimic_reports.specs.Junit.{suite_start}
use Rattle.mimic_reports.proofs.junit_elements.add_suite_start.Goals as goal

pub returns : goal.returns
unfolding suite_start
returns g c = adds_then _ _ c.add_pieces.ensures c.add_numbers.ensures
