use Rattle.std.proofs.Common.{refl, Err}
use Rattle.mimic_events.proofs.Printing.{put_begins}
use Rattle.mimic_events.proofs.readreport.readreport_run.Goals as goal

pub returns-in-Err : goal.returns-in-Err
returns-in-Err g c = record {
  printed = Err c.in-Err.fault;
  left = c.in-Err.ensures;
  ended = (refl, put_begins _ _ _ _ _ c.line.ensures c.put_text.ensures);
}
