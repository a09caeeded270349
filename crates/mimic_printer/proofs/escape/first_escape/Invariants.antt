-- What came so far is spelled by itself.
use Rattle.std.proofs.Common.{◌≡◌, ◌++◌, drop, take}
use Rattle.mimic_printer.specs.Escapes.{escaped}
use Rattle.mimic_printer.proofs.escape.first_escape.Given as goal

abbrev pub invariant-loop-at : goal.invariant-loop-at
invariant-loop-at l = escaped l.place l.text ≡ take l.at l.text ++ escaped l.place (drop l.at l.text)
