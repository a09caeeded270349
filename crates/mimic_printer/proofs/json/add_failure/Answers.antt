use Rattle.std.proofs.Common.{◌++◌, List, ℕ, false, subst}
use Rattle.mimic_printer.specs.Json.{json_outcome, outcome_front}
use Rattle.mimic_printer.specs.Sink.{Adds}
use Rattle.mimic_printer.proofs.Labels.{both_lines, label_then}
use Rattle.mimic_printer.proofs.json.add_failure.Goals as goal

pub returns-then-both : goal.returns-then-both
unfolding json_outcome
returns-then-both g c =
    let P : List ℕ → Type 0 = λ l. Adds g.W.Write.contents c.args.sink.now c.add_pieces.new.sink l in
    rw c.if-both.true (subst P (both_lines (outcome_front false) _ c.args.name.now c.args.kind.now _ c.name_piece-name.ensures) c.add_pieces.ensures)

pub returns-else-both : goal.returns-else-both
unfolding json_outcome
returns-else-both g c =
    let P : List ℕ → Type 0 = λ l. Adds g.W.Write.contents c.args.sink.now c.add_pieces-else-both.new.sink (outcome_front false ++ l) in
    rw c.if-both.false (subst P (label_then _ c.args.name.now c.args.kind.now _ c.name_piece-name.ensures) c.add_pieces-else-both.ensures)
