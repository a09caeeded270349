-- What the workers' answers make when they are joined: an outcome for each place.
use Rattle.std.specs.Prelude.{ℕ, ◌≡◌, ◌<◌, ◌++◌, Bool, List, [], ◌∷◌, length, slice_index_or, slice_set, true}
use Rattle.std.specs.List.{flat_map, range_with_len}
use Rattle.std.specs.List.Sorted.{IsPermutation}
use Rattle.mimic_trial.specs.declared.outcome.Outcome.{Outcome}
use Rattle.mimic_trial.specs.Places.{Placed, places_of}
use Rattle.mimic_trial.specs.Promise.{Gives, IsOutcomeOf}
use Rattle.mimic_pool.specs.Answers.{Answers}
use Rattle.mimic_pool.specs.declared.share.Assigned.{Assigned}

-- the outcomes after these rows were put at their places, one after another
abbrev pub put_all : List Placed → List Outcome → List Outcome
put_all [] outcomes = outcomes
put_all (row ∷ rows) outcomes = put_all rows (slice_set outcomes row.0 row.1)

-- the outcomes after the rows of each worker were put at their places, one worker's after another's
abbrev pub put_each : List (List Placed) → List Outcome → List Outcome
put_each [] outcomes = outcomes
put_each (rows ∷ more) outcomes = put_each more (put_all rows outcomes)

-- the rows of all workers have each of `count` places once, and no other place, but for those that are left, and none is left if the whole is to be run
pub record HavePlaces (whole : Bool) (count : ℕ) (joined : List (List Placed)) : Type 0 where
  pub left : List ℕ
  pub once : IsPermutation (places_of (flat_map (λ rows. rows) joined) ++ left) (range_with_len 0 count)
  pub all : whole ≡ true → left ≡ []

module _ {X : Type 0} (gives : Gives X) where
  -- these rows answer the trials, each once, in some order, but for those that were dropped
  pub record AnswersPart (mode : Bool) (trials dropped : List (Assigned X)) (rows : List Placed) : Type 0 where
    pub given : List (Assigned X)
    pub parts : IsPermutation trials (given ++ dropped)
    pub answers : Answers gives mode given rows

  -- these rows answer some of the trials, each once, in some order, and all of them if the whole is to be run
  pub record AnswersSome (mode whole : Bool) (trials : List (Assigned X)) (rows : List Placed) : Type 0 where
    pub dropped : List (Assigned X)
    pub answered : AnswersPart mode trials dropped rows
    pub all : whole ≡ true → dropped ≡ []

  -- the rows of all workers do
  abbrev pub AreJoined : Bool → List (Assigned X) → Bool → List (List Placed) → Type 0
  AreJoined mode trials whole joined = AnswersSome mode whole trials (flat_map (λ rows. rows) joined)

  -- the outcome at the place is one of the item there
  abbrev pub IsOutcomeAt : Bool → List (Assigned X) → List Outcome → ℕ → Type 0
  IsOutcomeAt mode items outcomes place =
      (x : Assigned X) (o : Outcome)
      → IsOutcomeOf gives (slice_index_or items place x).ignored (slice_index_or items place x).runner mode
      (slice_index_or outcomes place o)

  -- there is an outcome of each item, at its place
  abbrev pub AreOutcomes : Bool → List (Assigned X) → List Outcome → Type 0
  AreOutcomes mode items outcomes = (length outcomes ≡ length items)
      × ((place : ℕ) → place < length items → IsOutcomeAt mode items outcomes place)
