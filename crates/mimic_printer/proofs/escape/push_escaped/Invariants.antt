use Rattle.std.proofs.Common.{length}
use Rattle.mimic_printer.specs.Escapes.{escaped}
use Rattle.mimic_printer.proofs.Escaping.{AppendedSoFar}
use Rattle.mimic_printer.proofs.escape.push_escaped.Given as goal

abbrev pub invariant-loop-found : goal.invariant-loop-found
invariant-loop-found l = AppendedSoFar l.initial.to.items l.to.items (escaped l.place l.text) (escaped l.place l.rest)

abbrev pub decreases-loop-found : goal.decreases-loop-found
decreases-loop-found l = length l.rest
