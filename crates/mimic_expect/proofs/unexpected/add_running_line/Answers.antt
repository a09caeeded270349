use Rattle.std.proofs.Common.{codes}
use Rattle.mimic_printer.proofs.Adding.{adds_then}
use Rattle.mimic_expect.proofs.unexpected.add_running_line.Goals as goal

pub returns-in-Some : goal.returns-in-Some
returns-in-Some g c = rw (c.in-Cut.is, c.in-Some.is) (adds_then (codes "running: ") _ c.add.ensures c.add_announced.ensures)
