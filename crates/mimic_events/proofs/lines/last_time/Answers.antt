use Rattle.mimic_events.proofs.EndedLines.{time_last, time_more, time_none}
use Rattle.std.proofs.Common.{◌≡◌, ◌≢◌, rules}
use Rattle.mimic_printer.specs.Json.{json_end}
use Rattle.mimic_events.proofs.lines.last_time.Goals as goal

pub returns-in_err-nanos : goal.returns-in_err-nanos
returns-in_err-nanos c = rw c.from_residual.ensures (time_none c.args.text.now c.in_err-nanos.ensures)

pub returns-then-eq : goal.returns-then-eq
returns-then-eq c =
    let last : c.in_ok-nanos.end.now ≡ json_end = search rules in
    time_last c.args.text.now c.in_ok-nanos.end.now c.in_ok-nanos.nanos c.in_ok-nanos.ensures last

pub returns-else-eq : goal.returns-else-eq
returns-else-eq c =
    let more : c.in_ok-nanos.end.now ≢ json_end = search rules in
    time_more c.args.text.now c.in_ok-nanos.end.now c.in_ok-nanos.nanos c.in_ok-nanos.ensures more
