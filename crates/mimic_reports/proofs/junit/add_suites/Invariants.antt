-- The reports so far were added.
use Rattle.std.specs.Prelude.{take}
use Rattle.std.specs.List.{flat_map}
use Rattle.mimic_printer.specs.Sink.{Adds}
use Rattle.mimic_reports.specs.Junit.{suite_text}
use Rattle.mimic_reports.proofs.junit.add_suites.Given as goal

abbrev pub invariant-loop-suite : goal.invariant-loop-suite
invariant-loop-suite g l = Adds g.W.Write.contents l.initial.sink l.sink (flat_map suite_text (take l.suite-index l.suites))
