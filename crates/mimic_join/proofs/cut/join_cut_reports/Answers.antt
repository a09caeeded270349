use Rattle.std.proofs.Common.{ap, inl, rules}
use Rattle.mimic_events.proofs.Results.{at_fault}
use Rattle.mimic_printer.proofs.Adding.{puts_added}
use Rattle.mimic_printer.specs.Sink.{shown}
use Rattle.mimic_join.proofs.CutReports.{are_reports}
use Rattle.mimic_join.specs.Cut.{LeavesCut}
use Rattle.mimic_join.specs.declared.faults.JoinFault.TheVariants.{Write}
use Rattle.mimic_join.proofs.cut.join_cut_reports.Goals as goal

pub returns-in-Err : goal.returns-in-Err
returns-in-Err g c =
    let left = rw c.in-Err.is at c.in_ok-counts.ensures in (
      record {
        reports = c.deref-2.result.now;
        read = rw (c.deref-2.ensures.value, c.in_ok-reports.ensures) (are_reports _ _ c.in_ok-reads.ensures (search rules));
        why = left.0;
      },
      ap (shown g.O.Write.contents) left.1,
    )

pub returns-in_err-end-2 : goal.returns-in_err-end-2
returns-in_err-end-2 g c =
    let left = rw c.in-Ok.is at c.in_ok-counts.ensures in
    at_fault (LeavesCut _ c.args.shards c.args.equal_names _ _) _ (Write c.in_err-end-2.field-0.0)
    c.from_residual-in_err-end-2.ensures.1
    (inl (
      record {
        reports = c.deref-2.result.now;
        read = rw (c.deref-2.ensures.value, c.in_ok-reports.ensures) (are_reports _ _ c.in_ok-reads.ensures (search rules));
        fit = left.0;
        sum = left.1;
      },
      puts_added _ _ left.3 c.in_err-end-2.ensures,
    ))

pub returns : goal.returns
returns g c =
    let left = rw c.in-Ok.is at c.in_ok-counts.ensures in (
      record {
        reports = c.deref-2.result.now;
        read = rw (c.deref-2.ensures.value, c.in_ok-reports.ensures) (are_reports _ _ c.in_ok-reads.ensures (search rules));
        fit = left.0;
        sum = left.1;
      },
      puts_added _ _ left.3 c.in_ok-end-2.ensures,
      left.2,
    )
