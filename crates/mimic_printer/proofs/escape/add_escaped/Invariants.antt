use Rattle.std.proofs.Common.{length}
use Rattle.mimic_printer.specs.Escapes.{escaped}
use Rattle.mimic_printer.proofs.Escaping.{AddedSoFar}
use Rattle.mimic_printer.proofs.escape.add_escaped.Given as goal

abbrev pub invariant-loop-found : goal.invariant-loop-found
invariant-loop-found g l = AddedSoFar g.W.Write.contents l.initial.sink l.sink (escaped l.place l.text) (escaped l.place l.rest)

abbrev pub decreases-loop-found : goal.decreases-loop-found
decreases-loop-found g l = length l.rest
