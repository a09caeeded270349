use Rattle.std.proofs.Common.{◌∙◌, append_assoc, sym}
use Rattle.mimic_reports.specs.Page.{total_text}
use Rattle.mimic_reports.proofs.page_elements.add_times.Goals as goal

pub returns : goal.returns
unfolding total_text
returns g c =
    let total = rw c.total_time.ensures at c.human_pieces.ensures in
    let slowest = rw c.slowest_time.ensures at c.human_pieces-2.ensures in
    rw (sym c.has_times.ensures ∙ c.if-not-has_times.false, ← total, append_assoc, append_assoc, append_assoc, ← slowest, append_assoc, append_assoc, append_assoc)
    c.add_pieces.ensures
