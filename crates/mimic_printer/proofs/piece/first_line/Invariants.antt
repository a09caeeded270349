use Rattle.std.proofs.Common.{◌≡◌, ◌++◌, drop, take}
use Rattle.mimic_printer.specs.Piece.{first_line}
use Rattle.mimic_printer.proofs.piece.first_line.Given as goal

abbrev pub invariant-loop-at : goal.invariant-loop-at
invariant-loop-at l = first_line l.text ≡ take l.at l.text ++ first_line (drop l.at l.text)
