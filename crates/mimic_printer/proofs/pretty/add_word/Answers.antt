use Rattle.mimic_printer.proofs.Measured.{untimed_line-measured}
use Rattle.mimic_printer.proofs.pretty.add_word.Goals as goal

pub returns-in-Measured : goal.returns-in-Measured
returns-in-Measured g c =
    let start = rw c.in-Measured.is at c.colour_start.ensures in
    let word = rw c.in-Measured.is at c.word.ensures in
    let written = rw word at c.add_pieces.ensures in
    rw (c.in-Measured.is, untimed_line-measured c.args.printer.now c.in-Measured.measurement, ← start, ← c.colour_end.ensures) written
