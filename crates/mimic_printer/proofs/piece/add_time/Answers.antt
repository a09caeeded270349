use Rattle.mimic_printer.specs.Json.{time_key}
use Rattle.mimic_printer.proofs.Adding.{adds_then}
use Rattle.mimic_printer.proofs.piece.add_time.Goals as goal

pub returns-in-Some : goal.returns-in-Some
returns-in-Some g c = rw c.in-Some.is (adds_then time_key _ (rw c.as_bytes.ensures.value at c.add.ensures) c.add_seconds.ensures)
