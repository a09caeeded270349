use Rattle.std.proofs.Common.{◌≡◌, ◌∙◌, ap, false, is_some, not}
use Rattle.mimic_events.proofs.Forgetting.{if_none, never_begins}
use Rattle.mimic_events.proofs.row_reader.begins_no_line.Goals as goal

pub returns-then-is_none : goal.returns-then-is_none
returns-then-is_none c = λ yes.
    let first : is_some c.after.result ≡ false = c.is_none.ensures ∙ ap not c.if-is_none.true in
    let second : is_some c.after-then-is_none.result ≡ false = c.is_none-then-is_none.ensures ∙ ap not yes in
    never_begins _ _ (if_none _ _ _ first c.after.ensures) (if_none _ _ _ second c.after-then-is_none.ensures)
