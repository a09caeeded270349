use Rattle.std.proofs.Common.{None}
use Rattle.mimic_events.proofs.PlainRows.{ends_after}
use Rattle.mimic_events.proofs.row_lines.after_time.Goals as goal

pub returns-in-Some : goal.returns-in-Some
returns-in-Some c = (None, tt, c.in-Some.ensures)

pub returns : goal.returns
returns c = ends_after c.args.text.now c.in_ok-_nanos.rest.now c.in_ok-_nanos._nanos c.after-2.result c.in_ok-_nanos.ensures.0 c.in_ok-_nanos.ensures.1 c.after-2.ensures
