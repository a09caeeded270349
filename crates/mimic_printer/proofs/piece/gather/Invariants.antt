use Rattle.std.proofs.Common.{◌≡◌, ◌≤◌, take}
use Rattle.mimic_printer.specs.Piece.{pieces_text}
use Rattle.mimic_printer.proofs.piece.gather.Given as goal

abbrev pub invariant-loop-piece : goal.invariant-loop-piece
invariant-loop-piece l = record {
  within : l.len ≤ 256;
  written : take l.len l.row ≡ pieces_text (take l.piece-index l.pieces);
}
