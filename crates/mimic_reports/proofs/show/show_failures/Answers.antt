use Rattle.mimic_printer.specs.Sink.{LeavesText, shown}
use Rattle.mimic_printer.specs.declared.sink.OutputFault.TheVariants.{Write}
use Rattle.mimic_printer.proofs.Adding.{puts_added}
use Rattle.mimic_events.proofs.Results.{at_fault}
use Rattle.mimic_reports.specs.Show.{pretty_failures}
use Rattle.mimic_reports.proofs.show.show_failures.Goals as goal

pub returns-in_err-end : goal.returns-in_err-end
returns-in_err-end g c =
    let failures = rw (c.deref.ensures.value, c.in_ok-rows-2.ensures, c.in_ok-rows.ensures) at c.add_failures.ensures in
    at_fault
    (LeavesText (pretty_failures c.args.rows.items c.args.ending.now) (shown g.W.Write.contents c.args.sink.now) (shown g.W.Write.contents c.end.new.self))
    c.from_residual-in_err-end.result (Write c.in_err-end.field-0.0) c.from_residual-in_err-end.ensures.1
    (puts_added _ _ failures c.in_err-end.ensures)
