use Rattle.mimic_events.proofs.PlainRows.{word_then}
use Rattle.mimic_events.proofs.row_lines.word_at.Goals as goal

pub returns : goal.returns
returns c = word_then c.args.text.now c.in_ok-outcome.rest.now c.in_ok-rest.rest.now c.in_ok-outcome.outcome c.in_ok-outcome.ensures c.in_ok-rest.ensures
