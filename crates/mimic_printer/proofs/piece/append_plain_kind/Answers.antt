use Rattle.std.proofs.Common.{◌≡◌, ◌≤◌, IfSome, List, ℕ, take, subst}
use Rattle.mimic_printer.proofs.Labels.{joined}
use Rattle.mimic_printer.proofs.piece.append_plain_kind.Goals as goal

pub returns : goal.returns
returns c =
    let P : List ℕ → Type 0 = λ l. IfSome c.append-3.result (λ end. (end ≤ 256) × (take end c.append-3.new.row ≡ l)) in
    subst P
    (joined _ _ _ _ _ _ _ _ _ _ c.in_ok-end.ensures.1 c.in_ok-end-2.ensures.1 c.as_bytes.ensures.value c.as_bytes-2.ensures.value c.as_bytes-3.ensures.value c.brackets.ensures.shown)
    c.append-3.ensures
