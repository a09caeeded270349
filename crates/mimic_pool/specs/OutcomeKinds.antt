-- What rows keep inside: places, the kind of each outcome, and the outcomes of which the kind doesn't say all. No public clause names these words.
use Rattle.std.specs.Prelude.{ℕ, ◌≡◌, ◌+◌, ◌-◌, ◌≤◌, List, [], ◌∷◌, drop, length, vec_capacity}
use Rattle.std.specs.List.{zip}
use Rattle.std.specs.VecDeque.{deque_capacity, deque_items}
use Rattle.mimic_trial.specs.declared.outcome.Outcome.{Outcome}
use Rattle.mimic_trial.specs.declared.outcome.Outcome.TheVariants as outcome
use Rattle.mimic_trial.specs.Places.{Placed}
use Rattle.mimic_pool.specs.Rows.{Returned}
use Rattle.mimic_pool.specs.declared.outcome_kind.OutcomeKind.{OutcomeKind}
use Rattle.mimic_pool.specs.declared.outcome_kind.OutcomeKind.TheVariants.{Passed, Ignored, Kept}
use Rattle.mimic_pool.specs.declared.rows.Rows.TheInside.{Inside}

-- how many kept outcomes belong to the kind
abbrev pub weight_of : OutcomeKind → ℕ
weight_of Passed = 0
weight_of Ignored = 0
weight_of Kept = 1

-- the kind of an outcome
abbrev pub kind_of : Outcome → OutcomeKind
kind_of outcome.Passed = Passed
kind_of (outcome.Failed failed) = Kept
kind_of outcome.Ignored = Ignored
kind_of (outcome.Measured measured) = Kept

-- what is kept of an outcome
abbrev pub kept_of : Outcome → List Outcome
kept_of outcome.Passed = []
kept_of (outcome.Failed failed) = outcome.Failed failed ∷ []
kept_of outcome.Ignored = []
kept_of (outcome.Measured measured) = outcome.Measured measured ∷ []

-- the outcome of a kind, given the kept outcomes of its own row and of all later ones
abbrev pub outcome_by : OutcomeKind → List Outcome → Outcome
outcome_by Passed kept = outcome.Passed
outcome_by Ignored kept = outcome.Ignored
outcome_by Kept [] = outcome.Ignored
outcome_by Kept (outcome ∷ kept) = outcome

-- the kept outcomes after that of a kind
abbrev pub kept_after : OutcomeKind → List Outcome → List Outcome
kept_after kind kept = drop (weight_of kind) kept

-- how many kept outcomes belong to these kinds
abbrev pub weight_of_all : List (ℕ × OutcomeKind) → ℕ
weight_of_all [] = 0
weight_of_all (row ∷ more) = weight_of row.1 + weight_of_all more

-- the rows of these places and kinds, with these kept outcomes
abbrev pub rows_of : List (ℕ × OutcomeKind) → List Outcome → List Placed
rows_of [] kept = []
rows_of (row ∷ more) kept = (row.0, outcome_by row.1 kept) ∷ rows_of more (kept_after row.1 kept)

-- the places that are left, in their order, each with its kind
abbrev pub kinds_left : Inside → List (ℕ × OutcomeKind)
kinds_left rows = drop rows.taken (zip rows.places.items rows.kinds.items)

-- what rows with this inside show
abbrev pub returned_of : Inside → Returned
returned_of rows = record {
  order = rows.places.items;
  taken = rows.taken;
  items = rows_of (kinds_left rows) (deque_items rows.kept);
  room = vec_capacity rows.places - length rows.places.items;
}

-- what is kept belongs to the kinds that are left, and there is room for a kind and a kept outcome of each place
pub record AreRows (rows : Inside) : Type 0 where
  pub taken : rows.taken ≤ length rows.places.items
  pub kinds : length rows.kinds.items ≡ length rows.places.items
  pub kept : length (deque_items rows.kept) ≡ weight_of_all (kinds_left rows)
  pub kinds_room : vec_capacity rows.places ≤ vec_capacity rows.kinds
  pub kept_room : vec_capacity rows.places ≤ deque_capacity rows.kept
