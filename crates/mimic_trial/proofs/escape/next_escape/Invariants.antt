use Rattle.std.proofs.Common.{take}
use Rattle.mimic_trial.specs.Escape.{ArePlain}
use Rattle.mimic_trial.proofs.escape.next_escape.Given as goal

abbrev pub invariant-loop-at : goal.invariant-loop-at
invariant-loop-at l = ArePlain (take l.at l.text)
