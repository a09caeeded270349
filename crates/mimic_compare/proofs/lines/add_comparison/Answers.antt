use Rattle.mimic_printer.proofs.Adding.{adds_last, adds_then}
use Rattle.mimic_compare.proofs.lines.add_comparison.Goals as goal

pub returns : goal.returns
returns g c = adds_last _ (adds_then _ _ c.add_classes.ensures (adds_then _ _ c.add_changes.ensures c.add_numbers.ensures)) c.add_flush.ensures
