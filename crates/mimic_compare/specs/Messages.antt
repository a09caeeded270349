-- How often messages were counted. No public clause names these words.
use Rattle.std.specs.Prelude.{◌≡◌, ℕ, Bool, List, Option, unwrap_or}
use Rattle.std.specs.HashMap.{HashMap, get}
use Rattle.std.specs.Option.{option_copied, option_eq}
use Rattle.std.specs.Str.{bytes_eq}
use Rattle.mimic_trial.specs.declared.outcome.Outcome.TheVariants as outcome
use Rattle.mimic_compare.specs.Classes.{frequency}
use Rattle.mimic_compare.specs.Fates.{Fate}
use denote.Ref.{Bor}

abbrev pub same_message : Option (Bor (List ℕ)) → Option (Bor (List ℕ)) → Bool
same_message = option_eq (λ f g. bytes_eq f.now g.now)

-- the table counts how often each message comes in the failures
abbrev pub HasCounts : {S : Type 0} → HashMap (Option (Bor (List ℕ))) ℕ S → List Fate → Type 0
HasCounts counted fates = (message : Option (Bor (List ℕ))) → unwrap_or (get same_message counted message) 0
    ≡ frequency (outcome.Failed (option_copied message)) fates
