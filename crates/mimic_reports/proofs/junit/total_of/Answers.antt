use Rattle.std.proofs.Common.{◌∙◌, ap, arith}
use Rattle.mimic_reports.specs.Junit.{added, numbers_of}
use Rattle.mimic_reports.proofs.Totals.{total_more}
use Rattle.mimic_reports.proofs.junit.total_of.Goals as goal

pub loop-suite-preserved : goal.loop-suite-preserved
loop-suite-preserved c =
    let more = c.numbers-numbers.ensures in
    let old = c.loop-suite.invariant in
    record {
      numbers = ap (λ all. added all c.numbers-numbers.result) old.numbers ∙ ap (added _) (more.numbers ∙ ap numbers_of c.suite-item.is)
          ∙ total_more numbers_of c.args.suites.now c.loop-suite.suite-index c.suite-item.result c.loop-suite-test.true;
      within = (
        omega (arith, old.within.0, more.small.0),
        omega (arith, old.within.1, more.small.1),
        omega (arith, old.within.2, more.small.2),
        omega (arith, old.within.3, more.small.3),
        omega (arith, old.within.4, more.small.4),
      );
    }
