use Rattle.std.proofs.Common.{◌≢◌, [], rules}
use Rattle.mimic_printer.proofs.Adding.{adds_then}
use Rattle.mimic_printer.proofs.Labels.{kind_text-some, key_bytes}
use Rattle.mimic_printer.proofs.piece.add_kind.Goals as goal

pub returns-then-not-is_empty : goal.returns-then-not-is_empty
returns-then-not-is_empty g c =
    let some : c.args.kind.now ≢ [] = λ e. absurd (search rules) in
    rw (kind_text-some c.args.kind.now some)
    (adds_then key_bytes _ (rw c.as_bytes.ensures.value at c.add.ensures) (rw c.as_bytes-then-not-is_empty.ensures.value at c.add_json.ensures))
