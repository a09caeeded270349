use Rattle.std.proofs.Common.{codes}
use Rattle.mimic_printer.proofs.Adding.{adds_then}
use Rattle.mimic_watch.specs.Frames.{frame}
use Rattle.mimic_watch.proofs.frame.live_text.Goals as goal

pub returns : goal.returns
unfolding frame
returns c =
    let second = rw (c.deref.ensures.value, c.in_ok-second.ensures) at c.add-4.ensures in
    rw (c.new-drawn.ensures.writer, c.new.ensures.items) at
    (c.text_of.ensures _ _ (adds_then (codes "\u{1b}[?7l\r") _ c.add.ensures (adds_then _ _ c.add-2.ensures
    (adds_then (codes "\u{1b}[J\n") _ c.add-3.ensures (adds_then _ _ second c.add-5.ensures)))))
