use Rattle.mimic_printer.proofs.Appending.{Gone-write}
use Rattle.mimic_printer.proofs.sink.Sink.add.Goals as goal

pub loop-rest-preserved : goal.loop-rest-preserved
loop-rest-preserved g c = record {
  appended = Gone-write _ _ _ _ _ c.in-Ok.count c.in-Ok.ensures.bound c.loop-rest.invariant.appended c.in-Ok.ensures.bytes;
  faults = c.loop-rest.invariant.faults;
  fault = c.loop-rest.invariant.fault;
}
