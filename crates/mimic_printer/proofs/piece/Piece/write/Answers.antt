use Rattle.std.proofs.Common.{◌≡◌, ◌≤◌, ◌++◌, IfSome, List, ℕ, take, subst}
use Rattle.mimic_printer.proofs.Appending.{take-blanks}
use Rattle.mimic_printer.proofs.piece.Piece.write.Goals as goal

pub returns-in-Spaces : goal.returns-in-Spaces
returns-in-Spaces c =
    let P : List ℕ → Type 0 = λ l. IfSome c.append-in-Spaces.result (λ end. (end ≤ 256) × (take end c.append-in-Spaces.new.row ≡ take c.args.len c.args.row.now ++ l)) in
    rw c.in-Spaces.is (subst P (take-blanks c.in-Spaces.count c.if-count-le32.true) c.append-in-Spaces.ensures)
