use Rattle.std.proofs.Common.{[], codes}
use Rattle.mimic_printer.proofs.Adding.{adds_last, adds_nothing, adds_then, puts_added}
use Rattle.mimic_reports.specs.Junit.{junit_text}
use Rattle.mimic_reports.proofs.junit.write_junit.Goals as goal

pub returns-clause-document : goal.returns-clause-document
unfolding junit_text
returns-clause-document g c =
    let start = rw c.total_of.ensures at c.add_root_start.ensures in
    let rest = adds_then _ _ c.add_suites.ensures (adds_then (codes "</testsuites>\n") [] c.add.ensures (adds_nothing _)) in
    puts_added _ c.end.result (adds_last _ (adds_then _ _ start rest) c.add_flush.ensures) c.end.ensures
