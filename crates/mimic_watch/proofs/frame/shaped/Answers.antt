use Rattle.std.proofs.Common.{append-nil}
use Rattle.std.specs.Prelude.{decimal}
use Rattle.mimic_printer.proofs.Adding.{adds_then}
use Rattle.mimic_watch.specs.Frames.{shaped}
use Rattle.mimic_watch.proofs.frame.shaped.Goals as goal

pub returns : goal.returns
unfolding shaped
returns c =
    let ended = rw (append-nil (decimal c.args.view.now.ended)) at c.add_pieces.ensures in
    let rest = adds_then _ _ c.add_announced.ensures (adds_then _ _ c.add_failed.ensures
    (adds_then _ _ c.add_span.ensures c.add_span-2.ensures)) in
    rw (c.new-line.ensures.writer, c.new.ensures.items) at (c.text_of.ensures _ _
    (adds_then _ _ c.add_bar.ensures (adds_then _ _ ended rest)))
