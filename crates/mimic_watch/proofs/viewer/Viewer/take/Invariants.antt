-- A front of the piece was taken.
use Rattle.std.proofs.Common.{length}
use Rattle.mimic_watch.proofs.Seeing.{TakenSoFar}
use Rattle.mimic_watch.proofs.viewer.Viewer.take.Given as goal

abbrev pub invariant-loop-row : goal.invariant-loop-row
invariant-loop-row l = TakenSoFar l.fn.self l.fn.piece l.self l.rest

abbrev pub decreases-loop-row : goal.decreases-loop-row
decreases-loop-row l = length l.rest
