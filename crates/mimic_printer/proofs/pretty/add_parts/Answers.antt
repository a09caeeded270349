use Rattle.mimic_printer.proofs.Adding.{adds_then}
use Rattle.mimic_printer.proofs.Measured.{outcome_line-parts}
use Rattle.mimic_printer.proofs.pretty.add_parts.Goals as goal

pub returns : goal.returns
returns g c = rw (outcome_line-parts c.args.printer.now c.args.outcome.now c.args.nanos) (adds_then _ _ c.add_word.ensures c.add_end.ensures)
