-- What a worker answers.
use Rattle.std.specs.Prelude.{◌≡◌, ◌++◌, Bool, List, [], ◌∷◌}
use Rattle.mimic_trial.specs.Places.{Placed}
use Rattle.mimic_trial.specs.Promise.{Gives, IsOutcomeOf}
use Rattle.mimic_pool.specs.declared.share.Assigned.{Assigned}

-- each item is answered once, in their order: by its place, and an own outcome in this mode
abbrev pub Answers : {X : Type 0} → Gives X → Bool → List (Assigned X) → List Placed → Type 0
Answers gives mode [] [] = Unit {0}
Answers gives mode [] (row ∷ rows) = ⊥
Answers gives mode (item ∷ items) [] = ⊥
Answers gives mode (item ∷ items) (row ∷ rows) =
    (row.0 ≡ item.place) × IsOutcomeOf gives item.ignored item.runner mode row.1 × Answers gives mode items rows

-- the source went on by some trials, rows that answer them were added, and what hears of rows may have been handed these
pub record HasWorked {S X : Type 0} (goes_on : S → List (Assigned X) → S → Type 0) (gives : Gives X) (mode : Bool)
    (heard heard_now : List Placed → Type 0) (before after : S) (old new : List Placed) : Type 0 where
  pub given : List (Assigned X)
  pub rows : List Placed
  pub went_on : goes_on before given after
  pub answers : Answers gives mode given rows
  pub added : new ≡ old ++ rows
  pub hears : (told : List Placed) → heard told → heard_now (told ++ rows)
