use Rattle.std.proofs.Common.{arith}
use Rattle.mimic_join.proofs.Joining.{filtered_out-part}
use Rattle.mimic_join.proofs.join.totals.Goals as goal

pub returns-in_default : goal.returns-in_default
returns-in_default c =
    let part = filtered_out-part c.args.reports.now c.loop-report.report-index c.report-item.result c.loop-report-test.true c.report-item.is in
    omega (arith, part, c.loop-report.invariant.filtered_out, c.in_default.ensures)
