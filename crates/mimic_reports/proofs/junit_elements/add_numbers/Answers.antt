use Rattle.std.proofs.Common.{append_assoc}
use Rattle.mimic_reports.proofs.junit_elements.add_numbers.Goals as goal

pub returns : goal.returns
returns g c = rw (← c.nearest_thousandths-thousandths.ensures, append_assoc, append_assoc) c.add_pieces.ensures
