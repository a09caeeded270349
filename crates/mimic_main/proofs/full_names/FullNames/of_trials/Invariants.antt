use Rattle.std.proofs.Common.{◌≡◌, length, take}
use Rattle.mimic_main.specs.FullNames.{AreEnds, full_names_of, parts_of}
use Rattle.mimic_main.proofs.full_names.FullNames.of_trials.Given as goal

abbrev pub invariant-loop-trial : goal.invariant-loop-trial
invariant-loop-trial g l = record {
  are : AreEnds (length l.names.items) 0 l.ends.items;
  parts : parts_of l.names.items 0 l.ends.items ≡ full_names_of (take l.trial-index l.trials);
}
