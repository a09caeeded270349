use Rattle.std.proofs.Common.{◌≢◌, [], codes, rules}
use Rattle.mimic_printer.proofs.Adding.{adds_then}
use Rattle.mimic_printer.proofs.Labels.{bracketed-some}
use Rattle.mimic_printer.proofs.piece.add_bracketed.Goals as goal

pub returns-then-not-is_empty : goal.returns-then-not-is_empty
returns-then-not-is_empty g c =
    let some : c.args.kind.now ≢ [] = λ e. absurd (search rules) in
    rw (bracketed-some c.args.place c.args.kind.now some)
    (adds_then (codes "[") _ c.add.ensures
    (adds_then _ (codes "] ") (rw c.as_bytes.ensures.value at c.add_escaped.ensures.written) c.add-then-not-is_empty.ensures))
