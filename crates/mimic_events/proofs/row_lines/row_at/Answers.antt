use Rattle.std.proofs.Common.{refl}
use Rattle.mimic_events.proofs.PlainRows.{row_some}
use Rattle.mimic_events.proofs.row_lines.row_at.Goals as goal

pub returns : goal.returns
returns c =
    row_some c.args.text.now c.in_ok-label.label.now c.in_ok-rest.rest.now c.in_ok-label.rest.now _ c.in_ok-rest-2.rest.now c.in_ok-rest-3.rest.now c.word_at.result
    c.in_ok-rest.ensures c.in_ok-label.ensures.0 c.in_ok-label.ensures.1 c.in_ok-rest-2.ensures refl c.in_ok-rest-3.ensures c.word_at.ensures
