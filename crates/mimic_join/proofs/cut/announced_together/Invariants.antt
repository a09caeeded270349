-- The titles so far.
use Rattle.std.specs.Prelude.{take}
use Rattle.mimic_join.specs.Cut.{titles_in}
use Rattle.mimic_join.proofs.CutReports.{IsSumOf}
use Rattle.mimic_join.proofs.cut.announced_together.Given as goal

abbrev pub invariant-loop-read : goal.invariant-loop-read
invariant-loop-read l = IsSumOf (titles_in (take l.read-index l.reads)) l.sum
