use Rattle.mimic_events.proofs.FailedLines.{kind_found, kind_missing}
use Rattle.mimic_events.proofs.lines.kind_at.Goals as goal

pub returns-in-Some : goal.returns-in-Some
returns-in-Some c = kind_found c.args.rest.now c.in-Some.kind.items c.in-Some.field-0-1.now (rw c.in-Some.is at c.in_ok-kind.ensures)

pub returns-in-None : goal.returns-in-None
returns-in-None c = rw c.new.ensures.items (kind_missing c.args.rest.now (rw c.in-None.is at c.in_ok-kind.ensures))
