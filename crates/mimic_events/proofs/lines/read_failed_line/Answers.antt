use Rattle.std.proofs.Common.{None, Some}
use Rattle.mimic_events.specs.Contents.{label_read}
use Rattle.mimic_events.proofs.FailedLines.{failed_end, no_end, other_end}
use Rattle.mimic_events.proofs.lines.read_failed_line.Goals as goal

pub returns-in_default-2 : goal.returns-in_default-2
returns-in_default-2 c =
    let says = rw c.in-Some.is at c.in_ok-label.ensures in
    no_end c.args.line.now (label_read c.in-Some.label) says (rw c.in_default-2.is at c.in_ok-outcome.ensures)

pub returns-in-Failed : goal.returns-in-Failed
returns-in-Failed c =
    let says = rw c.in-Some.is at c.in_ok-label.ensures in
    let end = rw (c.in-Some-2.is, c.in-Failed.is) at c.in_ok-outcome.ensures in
    failed_end c.args.line.now (label_read c.in-Some.label) says c.in-Failed.failed c.in-Some-2.nanos end

pub returns-in_default-outcome : goal.returns-in_default-outcome
returns-in_default-outcome c =
    let says = rw c.in-Some.is at c.in_ok-label.ensures in
    let end = rw c.in-Some-2.is at c.in_ok-outcome.ensures in
    other_end c.args.line.now (label_read c.in-Some.label) says (c.in-Some-2.outcome, c.in-Some-2.nanos) c.in_default-outcome.not-Failed end
