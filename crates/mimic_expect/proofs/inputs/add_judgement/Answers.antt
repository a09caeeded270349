use Rattle.mimic_printer.proofs.Adding.{adds_then}
use Rattle.mimic_expect.proofs.inputs.add_judgement.Goals as goal

pub returns : goal.returns
returns g c = adds_then _ _ (rw c.deref.ensures.value at c.add_unexpected.ensures) (adds_then _ _ c.add_running.ensures c.add_numbers.ensures)
