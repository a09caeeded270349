use Rattle.std.proofs.Common.{[], codes}
use Rattle.mimic_printer.proofs.Adding.{adds_nothing, adds_then}
use Rattle.mimic_reports.proofs.row_id.add_id.Goals as goal

pub returns : goal.returns
returns g c =
    let kind = rw (c.as_bytes.ensures.value, c.as_str.ensures.value) at c.add_part.ensures in
    let name = rw (c.as_bytes-2.ensures.value, c.as_str-2.ensures.value) at c.add_part-2.ensures in
    adds_then _ _ kind (adds_then (codes "/") _ c.add.ensures (adds_then _ [] name (adds_nothing _)))
