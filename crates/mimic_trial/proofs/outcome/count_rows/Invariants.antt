use Rattle.std.proofs.Common.{◌≡◌, take}
use Rattle.mimic_trial.specs.Count.{counts_of}
use Rattle.mimic_trial.proofs.outcome.count_rows.Given as goal

abbrev pub invariant-loop-outcome : goal.invariant-loop-outcome
invariant-loop-outcome l = l.conclusion ≡ counts_of (take l.outcome-index l.outcomes) l.filtered
