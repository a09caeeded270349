use Rattle.std.proofs.Common.{◌≡◌, length}
use Rattle.mimic_testkit.proofs.mixed_bag.known_trials.Given as goal

abbrev pub invariant-loop-entry : goal.invariant-loop-entry
invariant-loop-entry l = length l.trials.items ≡ l.entry-index
