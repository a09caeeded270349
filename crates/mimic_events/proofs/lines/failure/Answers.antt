use Rattle.std.proofs.Common.{◌≢◌, None, Some, rules, string_bytes}
use Rattle.mimic_printer.specs.Json.{json_end}
use Rattle.mimic_events.proofs.EndedLines.{some_message}
use Rattle.mimic_events.proofs.lines.failure.Goals as goal

pub returns-in-Some : goal.returns-in-Some
returns-in-Some c =
    let more : c.args.rest.now ≢ json_end = search rules in
    rw c.with_message.ensures (some_message c.args.rest.now (Some (string_bytes c.in-Some.message)) more (rw c.in-Some.is at c.in_ok-message.ensures))

pub returns-in-None : goal.returns-in-None
returns-in-None c =
    let more : c.args.rest.now ≢ json_end = search rules in
    some_message c.args.rest.now None more (rw c.in-None.is at c.in_ok-message.ensures)
