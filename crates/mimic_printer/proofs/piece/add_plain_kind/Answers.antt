use Rattle.mimic_printer.proofs.Adding.{adds_then}
use Rattle.mimic_printer.proofs.piece.add_plain_kind.Goals as goal

pub returns : goal.returns
returns g c =
    let first = rw c.as_bytes.ensures.value at c.add.ensures in
    let second = rw c.as_bytes-2.ensures.value at c.add-2.ensures in
    let third = rw c.as_bytes-3.ensures.value at c.add-3.ensures in
    rw (← c.brackets.ensures.shown) (adds_then _ _ first (adds_then _ _ second third))
