use Rattle.std.proofs.Common.{◌∙◌, sym}
use Rattle.std.specs.Prelude.{chars}
use Rattle.mimic_printer.proofs.Adding.{adds_then}
use Rattle.mimic_watch.specs.Frames.{cut}
use Rattle.mimic_watch.proofs.Plain.{whole_fitting}
use Rattle.mimic_watch.proofs.frame.add_cut.Goals as goal

pub returns-then-is_wider : goal.returns-then-is_wider
unfolding cut
returns-then-is_wider g c =
    rw (sym c.is_wider.ensures ∙ c.if-is_wider.true) (adds_then _ _ (rw c.saturating_sub.ensures at c.add_fitting.ensures)
    (rw c.min.ensures at c.add.ensures))

pub returns-else-is_wider : goal.returns-else-is_wider
unfolding cut
returns-else-is_wider g c =
    let short = sym c.is_wider.ensures ∙ c.if-is_wider.false in
    rw short (rw (whole_fitting (chars c.args.text.now) c.args.columns short) at c.add_fitting-else-is_wider.ensures)
