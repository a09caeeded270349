use Rattle.std.proofs.Common.{◌≡◌, ◌++◌, drop}
use Rattle.std.specs.Prelude.{option_to_list}
use Rattle.mimic_compare.specs.Changes.{measurements, only}
use Rattle.mimic_compare.proofs.change.only_measurement.Given as goal

abbrev pub invariant-loop-fate : goal.invariant-loop-fate
invariant-loop-fate l = only (measurements l.fates) ≡ only (option_to_list l.found ++ measurements (drop l.fate-index l.fates))
