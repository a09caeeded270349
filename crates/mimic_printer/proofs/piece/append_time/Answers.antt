use Rattle.std.proofs.Common.{◌≡◌, ◌≤◌, IfSome, List, ℕ, take, subst}
use Rattle.mimic_printer.proofs.Labels.{time_joined}
use Rattle.mimic_printer.proofs.piece.append_time.Goals as goal

pub returns-in_ok-end-in-Some : goal.returns-in_ok-end-in-Some
returns-in_ok-end-in-Some c =
    let P : List ℕ → Type 0 = λ l. IfSome c.append_seconds.result (λ end. (end ≤ 256) × (take end c.append_seconds.new.row ≡ l)) in
    rw c.in-Some.is (subst P (time_joined _ _ _ _ c.in_ok-end-in-Some.ensures.1 c.as_bytes.ensures.value) c.append_seconds.ensures)
