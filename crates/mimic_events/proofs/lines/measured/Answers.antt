use Rattle.std.proofs.Common.{◌++◌, None, Some, decimal}
use Rattle.mimic_printer.specs.Json.{json_end, time_field}
use Rattle.mimic_events.proofs.EndedLines.{no_median, measured_second, measured_all}
use Rattle.mimic_events.proofs.lines.measured.Goals as goal

pub returns-in_err-after : goal.returns-in_err-after
returns-in_err-after c = rw c.from_residual.ensures (λ v h. no_median c.args.rest.now v c.in_err-after.ensures h)

pub returns-in_err-after-2 : goal.returns-in_err-after-2
returns-in_err-after-2 c = rw c.from_residual-in_err-after-2.ensures (λ v h.
    let m = measured_second c.args.rest.now c.in_ok-after.field-0.now c.in_ok-avg.rest.now c.in_ok-avg.avg v h c.in_ok-after.ensures c.in_ok-avg.ensures in
    c.in_err-after-2.ensures (decimal m.0 ++ (time_field v.1 ++ json_end)) m.3)

pub returns-in_err-nanos : goal.returns-in_err-nanos
returns-in_err-nanos c =
    rw c.from_residual-in_err-nanos.ensures
    (measured_all c.args.rest.now c.in_ok-after.field-0.now c.in_ok-avg.rest.now c.in_ok-after-2.field-0.now c.in_ok-variance.rest.now c.in_ok-avg.avg c.in_ok-variance.variance None
    c.in_ok-after.ensures c.in_ok-avg.ensures c.in_ok-after-2.ensures c.in_ok-variance.ensures c.in_err-nanos.ensures)

pub returns : goal.returns
returns c =
    measured_all c.args.rest.now c.in_ok-after.field-0.now c.in_ok-avg.rest.now c.in_ok-after-2.field-0.now c.in_ok-variance.rest.now c.in_ok-avg.avg c.in_ok-variance.variance (Some c.in_ok-nanos.nanos)
    c.in_ok-after.ensures c.in_ok-avg.ensures c.in_ok-after-2.ensures c.in_ok-variance.ensures c.in_ok-nanos.ensures
