use Rattle.mimic_reports.specs.Page.{links_text}
use Rattle.mimic_reports.proofs.page_elements.add_links.Goals as goal

pub returns : goal.returns
unfolding links_text
returns g c = rw (← c.from.ensures, ← c.from-2.ensures) c.add_pieces.ensures
