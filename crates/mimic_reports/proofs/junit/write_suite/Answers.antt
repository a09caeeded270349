use Rattle.mimic_printer.proofs.Adding.{adds_last, adds_then, puts_added}
use Rattle.mimic_reports.specs.Junit.{declaration}
use Rattle.mimic_reports.proofs.junit.write_suite.Goals as goal

pub returns-clause-document : goal.returns-clause-document
returns-clause-document g c =
    puts_added _ c.end.result (adds_last _ (adds_then declaration _ c.add.ensures c.add_suite.ensures) c.add_flush.ensures) c.end.ensures
