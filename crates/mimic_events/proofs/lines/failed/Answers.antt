use Rattle.std.proofs.Common.{None, Some}
use Rattle.mimic_events.proofs.EndedLines.{failed_found, failed_none}
use Rattle.mimic_events.proofs.lines.failed.Goals as goal

pub returns-in_default : goal.returns-in_default
returns-in_default c = failed_none c.args.rest.now c.in_default.ensures

pub returns-in-Some-2 : goal.returns-in-Some-2
returns-in-Some-2 c = failed_found c.args.rest.now c.in-Some.rest.now c.in-Some.nanos (Some c.in-Some-2.failed) c.in-Some.ensures (rw c.in-Some-2.is at c.in_ok-failed.ensures)

pub returns-in-None : goal.returns-in-None
returns-in-None c = failed_found c.args.rest.now c.in-Some.rest.now c.in-Some.nanos None c.in-Some.ensures (rw c.in-None.is at c.in_ok-failed.ensures)
