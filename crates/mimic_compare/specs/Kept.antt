-- What is kept of rows. No public clause names these words.
use Rattle.std.specs.Prelude.{Box, List, [], ◌∷◌, Option, None, Some}
use Rattle.mimic_trial.specs.declared.outcome.Outcome.{Outcome}
use Rattle.mimic_trial.specs.declared.outcome.Outcome.TheVariants.{Passed}
use Rattle.mimic_compare.specs.Fates.{Fate}
use Rattle.mimic_compare.specs.declared.fates.Kept.{Kept}
use Rattle.mimic_compare.specs.declared.fates.Kept.TheVariants.{Nothing, One, Many}

abbrev pub outcome_kept : {A : Type 0} → Option (Box Outcome A) → Outcome
outcome_kept None = Passed
outcome_kept (Some other) = other.value

abbrev pub fates_kept : Kept → List Fate
fates_kept Nothing = []
fates_kept (One fate) = fate ∷ []
fates_kept (Many fates) = fates.items
