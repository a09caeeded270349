use Rattle.std.proofs.Common.{codes}
use Rattle.mimic_printer.proofs.Adding.{adds_then}
use Rattle.mimic_reports.proofs.page_elements.add_running.Goals as goal

pub returns : goal.returns
returns g c =
    rw (c.in-Some.is, ← c.as_str.ensures.value, ← c.as_str-2.ensures.value) (adds_then (codes "; running: ") _ c.add.ensures c.add_label.ensures)
