use Rattle.mimic_printer.proofs.Adding.{adds_then}
use Rattle.mimic_watch.specs.Frames.{log_line}
use Rattle.mimic_watch.proofs.frame.log_text.Goals as goal

pub returns : goal.returns
unfolding log_line
returns c =
    let second = rw (c.deref.ensures.value, c.in_ok-second.ensures, c.saturating_sub-room.ensures, c.saturating_sub.ensures) at c.add_headed.ensures in
    rw (c.new-drawn.ensures.writer, c.new.ensures.items) at
    (c.text_of.ensures _ _ (adds_then _ _ c.add.ensures (adds_then _ _ second c.add-2.ensures)))
