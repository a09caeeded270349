use Rattle.std.proofs.Common.{rules}
use Rattle.mimic_events.proofs.Digits.{no_seconds, seconds_go_on}
use Rattle.mimic_events.proofs.numbers.seconds.Goals as goal

pub returns-in_err-nanos : goal.returns-in_err-nanos
returns-in_err-nanos c = rw c.from_residual.ensures (no_seconds c.args.text.now c.in_err-nanos.ensures)

pub returns-else-is_empty : goal.returns-else-is_empty
returns-else-is_empty c = seconds_go_on c.args.text.now c.in_ok-nanos.rest.now c.in_ok-nanos.nanos c.in_ok-nanos.ensures (λ none. search (rules, none))
