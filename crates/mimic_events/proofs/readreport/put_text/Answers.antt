use Rattle.mimic_printer.proofs.Appending.{Gone-write}
use Rattle.mimic_events.proofs.readreport.put_text.Goals as goal

pub loop-rest-preserved : goal.loop-rest-preserved
loop-rest-preserved g c = Gone-write _ _ _ _ _ c.in-Ok.count c.in-Ok.ensures.bound c.loop-rest.invariant c.in-Ok.ensures.bytes
