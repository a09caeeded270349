use Rattle.mimic_events.proofs.Times.{no_time, time_found, time_missing}
use Rattle.mimic_events.proofs.numbers.time_at.Goals as goal

pub returns-in_default : goal.returns-in_default
returns-in_default c = no_time c.args.text.now c.in_default.ensures

pub returns-in_err-nanos : goal.returns-in_err-nanos
returns-in_err-nanos c = rw c.from_residual.ensures (time_missing c.args.text.now c.in-Some.rest.now c.in-Some.ensures c.in_err-nanos.ensures)

pub returns : goal.returns
returns c = time_found c.args.text.now c.in-Some.rest.now c.in-Some.ensures c.in_ok-nanos.nanos c.in_ok-nanos.rest.now c.in_ok-nanos.ensures
