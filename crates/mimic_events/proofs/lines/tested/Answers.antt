use Rattle.mimic_events.proofs.EndedLines.{failed_ends, ignored_ends, no_word, passed_ends}
use Rattle.mimic_events.proofs.lines.tested.Goals as goal

pub returns-in-Some : goal.returns-in-Some
returns-in-Some c = rw c.with_outcome.ensures (passed_ends c.args.rest.now c.in-Some.rest.now c.last_time.result c.in-Some.ensures c.last_time.ensures)

pub returns-in-Some-after : goal.returns-in-Some-after
returns-in-Some-after c = rw c.with_outcome-in-Some-after.ensures (ignored_ends c.args.rest.now c.in-Some-after.rest.now c.last_time-in-Some-after.result c.in-Some-after.ensures c.last_time-in-Some-after.ensures)

pub returns-in_ok-end-in-Some-after-2 : goal.returns-in_ok-end-in-Some-after-2
returns-in_ok-end-in-Some-after-2 c = failed_ends c.args.rest.now c.in-Some-after-2.rest.now _ c.in-Some-after-2.ensures c.in_ok-end-in-Some-after-2.ensures

pub returns-in-None : goal.returns-in-None
returns-in-None c = λ v h. no_word c.args.rest.now v c.in_default.ensures c.in_default-after.ensures c.in-None.ensures h
