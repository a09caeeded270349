use Rattle.std.proofs.Common.{◌≡◌, ◌++◌, drop}
use Rattle.std.specs.Prelude.{option_to_list}
use Rattle.mimic_compare.specs.Changes.{times_taken, only}
use Rattle.mimic_compare.proofs.change.only_time.Given as goal

abbrev pub invariant-loop-fate : goal.invariant-loop-fate
invariant-loop-fate l = only (times_taken l.fates) ≡ only (option_to_list l.found ++ times_taken (drop l.fate-index l.fates))
