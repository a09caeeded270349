-- What was taken off the front of `rest` was appended.
use Rattle.std.proofs.Common.{length}
use Rattle.mimic_printer.proofs.Appending.{Gone}
use Rattle.mimic_events.proofs.readreport.put_text.Given as goal

abbrev pub invariant-loop-rest : goal.invariant-loop-rest
invariant-loop-rest g l = Gone (g.W.Write.contents l.initial.writer) (g.W.Write.contents l.writer) l.initial.rest l.rest

abbrev pub decreases-loop-rest : goal.decreases-loop-rest
decreases-loop-rest g l = length l.rest
