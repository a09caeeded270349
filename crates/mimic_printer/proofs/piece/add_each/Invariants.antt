use Rattle.std.proofs.Common.{take}
use Rattle.mimic_printer.specs.Sink.{Adds}
use Rattle.mimic_printer.specs.Piece.{pieces_text}
use Rattle.mimic_printer.proofs.piece.add_each.Given as goal

abbrev pub invariant-loop-piece : goal.invariant-loop-piece
invariant-loop-piece g l = Adds g.W.Write.contents l.initial.sink l.sink (pieces_text (take l.piece-index l.pieces))
