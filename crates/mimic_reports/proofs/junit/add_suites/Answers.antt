use Rattle.std.proofs.Common.{◌∙◌, sym}
use Rattle.mimic_printer.proofs.Adding.{adds_next, adds_rest}
use Rattle.mimic_reports.specs.Junit.{suite_text}
use Rattle.mimic_reports.proofs.junit.add_suites.Goals as goal

pub returns-then-has_fault : goal.returns-then-has_fault
returns-then-has_fault g c =
    adds_rest suite_text c.args.suites.now c.loop-suite.suite-index (sym c.has_fault.ensures ∙ c.if-has_fault.true) c.loop-suite.invariant

pub loop-suite-preserved : goal.loop-suite-preserved
loop-suite-preserved g c =
    adds_next suite_text c.args.suites.now c.loop-suite.suite-index c.suite-item.result c.loop-suite-test.true c.loop-suite.invariant
    (rw c.suite-item.is at c.add_suite.ensures)
