use Rattle.std.proofs.Common.{◌++◌, [], List, ℕ, Some, false, subst}
use Rattle.mimic_printer.specs.Json.{json_end, outcome_front, time_field}
use Rattle.mimic_printer.specs.Sink.{Adds}
use Rattle.mimic_printer.proofs.Labels.{both_words, word_then}
use Rattle.mimic_printer.proofs.json.add_timed_word.Goals as goal

pub returns-then-both : goal.returns-then-both
returns-then-both g c =
    let P : List ℕ → Type 0 = λ l. Adds g.W.Write.contents c.args.sink.now c.add_pieces.new.sink l in
    let rest : List ℕ = time_field (Some c.args.nanos) ++ (json_end ++ []) in
    rw c.if-both.true (subst P (both_words (outcome_front false) _ c.args.name.now c.args.kind.now c.args.word.now rest c.name_piece-name.ensures c.requires) c.add_pieces.ensures)

pub returns-else-both : goal.returns-else-both
returns-else-both g c =
    let P : List ℕ → Type 0 = λ l. Adds g.W.Write.contents c.args.sink.now c.add_pieces-else-both.new.sink (outcome_front false ++ l) in
    let rest : List ℕ = time_field (Some c.args.nanos) ++ (json_end ++ []) in
    rw c.if-both.false (subst P (word_then _ c.args.name.now c.args.kind.now c.args.word.now rest c.name_piece-name.ensures c.requires) c.add_pieces-else-both.ensures)
