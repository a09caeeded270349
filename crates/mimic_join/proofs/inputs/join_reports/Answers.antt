use Rattle.mimic_events.proofs.Results.{at_fault}
use Rattle.mimic_printer.proofs.Adding.{puts_added}
use Rattle.mimic_join.specs.Inputs.{Leaves}
use Rattle.mimic_join.specs.declared.faults.JoinFault.TheVariants.{Write}
use Rattle.mimic_join.proofs.inputs.join_reports.Goals as goal

pub returns-in_err-end : goal.returns-in_err-end
returns-in_err-end g c =
    let left = rw c.in-Ok.is at c.in_ok-counts.ensures in
    at_fault (Leaves _ c.args.shards c.args.equal_names _ _) _ (Write c.in_err-end.field-0.0) c.from_residual-in_err-end.ensures.1 (
      record {
        reports = c.deref.result.now;
        read = rw c.deref.ensures.value c.in_ok-reports.ensures;
        fit = left.0;
        sum = left.1;
      },
      puts_added _ _ left.3 c.in_err-end.ensures,
    )

pub returns : goal.returns
returns g c =
    let left = rw c.in-Ok.is at c.in_ok-counts.ensures in (
      record {
        reports = c.deref.result.now;
        read = rw c.deref.ensures.value c.in_ok-reports.ensures;
        fit = left.0;
        sum = left.1;
      },
      puts_added _ _ left.3 c.in_ok-end.ensures,
      left.2,
    )
