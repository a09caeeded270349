use Rattle.mimic_printer.proofs.Adding.{adds_last, adds_then}
use Rattle.mimic_watch.proofs.viewer.add_last.Goals as goal

pub returns-in-Whole : goal.returns-in-Whole
returns-in-Whole g c = rw c.in-Whole.is (adds_then _ _ c.add_headed.ensures (adds_last _ c.add_summary.ensures c.add_flush.ensures))
