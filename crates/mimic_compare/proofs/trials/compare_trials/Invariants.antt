use Rattle.std.proofs.Common.{◌≡◌, map}
use Rattle.std.specs.Map.Iter.{deref_pair}
use Rattle.mimic_compare.specs.Trials.{compared_entry}
use Rattle.mimic_compare.proofs.trials.compare_trials.Given as goal

abbrev pub invariant-loop-label : goal.invariant-loop-label
invariant-loop-label g l = l.found.items ≡ map (compared_entry l.is_judged) (map deref_pair l.yielded)
