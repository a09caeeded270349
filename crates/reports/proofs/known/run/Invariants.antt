-- The sink has counted no fault.
use Rattle.mimic_printer.specs.Sink.{HasFaultLeft}
use Rattle.reports.proofs.known.run.Given as goal

abbrev pub invariant-loop-file : goal.invariant-loop-file
invariant-loop-file l = HasFaultLeft l.sink
