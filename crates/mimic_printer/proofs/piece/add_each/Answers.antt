use Rattle.mimic_printer.specs.Piece.{piece_text}
use Rattle.mimic_printer.proofs.Adding.{adds_next}
use Rattle.mimic_printer.proofs.piece.add_each.Goals as goal

pub loop-piece-preserved : goal.loop-piece-preserved
loop-piece-preserved g c = adds_next piece_text _ _ _ c.loop-piece-test.true c.loop-piece.invariant c.add.ensures
