use Rattle.std.proofs.Common.{append_assoc}
use Rattle.mimic_reports.specs.Page.{whole_text}
use Rattle.mimic_reports.proofs.page_elements.add_whole.Goals as goal

pub returns : goal.returns
unfolding whole_text
returns g c = rw (← c.human_pieces.ensures, append_assoc, append_assoc, append_assoc) c.add_pieces.ensures
