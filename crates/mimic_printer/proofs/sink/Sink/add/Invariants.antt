-- What was taken off the front of `rest` was appended, and no fault was kept.
use Rattle.std.proofs.Common.{◌≡◌, length}
use Rattle.mimic_printer.proofs.Appending.{Gone}
use Rattle.mimic_printer.proofs.sink.Sink.add.Given as goal

abbrev pub invariant-loop-rest : goal.invariant-loop-rest
invariant-loop-rest g l = record {
  appended : Gone (g.W.Write.contents l.initial.self.writer) (g.W.Write.contents l.self.writer) l.initial.rest l.rest;
  faults : l.self.faults ≡ l.initial.self.faults;
  fault : l.self.fault ≡ l.initial.self.fault;
}

abbrev pub decreases-loop-rest : goal.decreases-loop-rest
decreases-loop-rest g l = length l.rest
