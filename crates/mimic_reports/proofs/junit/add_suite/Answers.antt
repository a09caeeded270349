use Rattle.std.proofs.Common.{[], codes}
use Rattle.mimic_printer.proofs.Adding.{adds_nothing, adds_then}
use Rattle.mimic_reports.specs.Junit.{suite_text}
use Rattle.mimic_reports.proofs.junit.add_suite.Goals as goal

pub returns : goal.returns
unfolding suite_text
returns g c =
    let start = rw c.numbers.ensures.numbers at c.add_suite_start.ensures in
    let rows = rw c.rows.ensures at c.add_rows.ensures in
    adds_then _ _ start (adds_then _ _ rows (adds_then _ _ c.add_ending.ensures (adds_then (codes "  </testsuite>\n") [] c.add.ensures (adds_nothing _))))
