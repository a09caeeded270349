use Rattle.std.proofs.Common.{◌≡◌, ◌≢◌, ◌≤◌, IfSome, List, [], ℕ, take, subst, rules}
use Rattle.mimic_printer.proofs.Labels.{kind_joined}
use Rattle.mimic_printer.proofs.piece.append_kind.Goals as goal

pub returns : goal.returns
returns c =
    let some : c.args.kind.now ≢ [] = λ e. absurd (search rules) in
    let P : List ℕ → Type 0 = λ l. IfSome c.append_json.result (λ end. (end ≤ 256) × (take end c.append_json.new.row ≡ l)) in
    subst P (kind_joined _ _ c.args.kind.now _ c.in_ok-end.ensures.1 c.as_bytes.ensures.value some) c.append_json.ensures
