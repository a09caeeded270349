use Rattle.mimic_printer.proofs.Adding.{adds_then}
use Rattle.mimic_events.specs.Stops.{extent_text}
use Rattle.mimic_events.proofs.ending.Stop.add_extent.Goals as goal

pub returns : goal.returns
unfolding extent_text
returns g c = adds_then _ _ (rw c.wrong_pieces.ensures at c.add_pieces.ensures) (rw c.extent_pieces.ensures at c.add_pieces-2.ensures)
