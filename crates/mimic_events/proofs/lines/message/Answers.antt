use Rattle.std.proofs.Common.{string_bytes, sym, ◌∙◌}
use Rattle.mimic_events.proofs.NamedLines.{mapped, message_is, message_some, said}
use Rattle.mimic_events.proofs.lines.message.Goals as goal

pub returns-in_default : goal.returns-in_default
returns-in_default c = λ v h. let read = rw c.in_default.is at c.in_ok-text.ensures in read (said v) (h.1 ∙ message_is v)

pub returns-in-None : goal.returns-in-None
returns-in-None c = λ v h.
    let read = rw c.in-Some.is at c.in_ok-text.ensures in
    c.in-None.ensures v (sym (read.1 (said v) (h.1 ∙ message_is v)))

pub returns-in-Some-before_quote : goal.returns-in-Some-before_quote
returns-in-Some-before_quote c =
    message_some c.args.rest.now c.in-Some.text.items _ c.in-Some-before_quote.message.items (rw c.in-Some.is at c.in_ok-text.ensures) c.in-Some-before_quote.ensures
    (mapped c.text_of.result string_bytes c.in-Some-before_quote.message.items c.text_of.ensures)
