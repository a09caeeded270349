use Rattle.mimic_printer.proofs.Adding.{adds_last}
use Rattle.mimic_reports.proofs.page_elements.add_end.Goals as goal

pub returns : goal.returns
returns g c = adds_last _ c.add_pieces.ensures c.add_flush.ensures
