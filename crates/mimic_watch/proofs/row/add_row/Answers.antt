use Rattle.mimic_printer.proofs.Adding.{adds_then}
use Rattle.mimic_watch.specs.Rows.{row_text}
use Rattle.mimic_watch.proofs.row.add_row.Goals as goal

pub returns-in-Failed : goal.returns-in-Failed
unfolding row_text
returns-in-Failed g c =
    let front = rw (c.as_str.ensures.value, c.as_str-2.ensures.value, c.words.ensures.failed) at c.add_pieces.ensures in
    rw c.in-Failed.is (adds_then _ _ front (rw c.message.ensures at c.add_message.ensures))

pub returns-in-Measured : goal.returns-in-Measured
unfolding row_text
returns-in-Measured g c =
    let all = rw (c.as_str.ensures.value, c.as_str-2.ensures.value, c.words.ensures.bench) at c.add_pieces-in-Measured.ensures in
    rw c.in-Measured.is all
