use Rattle.std.proofs.Common.{arith}
use Rattle.mimic_events.proofs.Digits.{no_rest, no_whole, same_parts, seconds_read}
use Rattle.mimic_events.proofs.numbers.seconds_at.Goals as goal

pub returns-in_err-whole : goal.returns-in_err-whole
returns-in_err-whole c = rw c.from_residual.ensures (λ n rest fits ends e. no_whole c.args.bytes.now n rest fits ends e c.in_err-whole.ensures)

pub returns-in_err-fraction : goal.returns-in_err-fraction
returns-in_err-fraction c = rw c.from_residual-in_err-fraction.ensures (λ n rest fits ends e.
    no_rest c.args.bytes.now n rest fits ends e c.in_ok-whole.whole c.in_ok-whole.rest.now c.in_ok-whole.ensures c.in_err-fraction.ensures)

pub returns-in_err-nanos : goal.returns-in_err-nanos
returns-in_err-nanos c = rw c.from_residual-in_err-nanos.ensures (λ n rest fits ends e.
    let same = same_parts c.args.bytes.now n rest fits ends e c.in_ok-whole.whole c.in_ok-whole.rest.now c.in_ok-whole.ensures c.in_ok-fraction.fraction c.in_ok-fraction.rest.now c.in_ok-fraction.ensures in
    c.in_err-nanos.ensures (omega (arith, same.0, fits)))

pub returns : goal.returns
returns c = seconds_read c.args.bytes.now c.in_ok-whole.whole c.in_ok-whole.rest.now c.in_ok-fraction.fraction c.in_ok-fraction.rest.now c.in_ok-nanos.nanos
    c.in_ok-whole.ensures c.in_ok-fraction.ensures (omega (arith, c.in_ok-nanos.ensures)) c.in_ok-nanos.ensures.1
