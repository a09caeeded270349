use Rattle.mimic_reports.specs.Page.{start_text}
use Rattle.mimic_reports.proofs.page_elements.add_start.Goals as goal

pub returns : goal.returns
unfolding start_text
returns g c = rw (← c.verdict-verdict.ensures, ← c.verdict_class.ensures) c.add_pieces.ensures
