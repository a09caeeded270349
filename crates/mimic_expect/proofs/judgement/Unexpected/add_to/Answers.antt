use Rattle.std.proofs.Common.{codes}
use Rattle.mimic_printer.proofs.Adding.{adds_then}
use Rattle.mimic_expect.proofs.judgement.Unexpected.add_to.Goals as goal

pub returns-in-Failed : goal.returns-in-Failed
returns-in-Failed g c = rw c.in-Failed.is (adds_then (codes "failed: ") _ c.add.ensures (rw c.message_in.ensures at c.add_trial.ensures))

pub returns-in-AnotherMessage : goal.returns-in-AnotherMessage
returns-in-AnotherMessage g c = rw c.in-AnotherMessage.is (adds_then _ _ c.add_place.ensures (rw c.message_in-in-AnotherMessage.ensures at c.add_trial-in-AnotherMessage.ensures))

pub returns-in-Passed : goal.returns-in-Passed
returns-in-Passed g c = rw c.in-Passed.is (adds_then _ _ c.add_place-in-Passed.ensures c.add_trial-in-Passed.ensures)

pub returns-in-Absent : goal.returns-in-Absent
returns-in-Absent g c = rw c.in-Absent.is (adds_then _ _ c.add_place-in-Absent.ensures c.add_trial-in-Absent.ensures)
