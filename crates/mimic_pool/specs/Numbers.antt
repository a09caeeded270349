-- What a desk keeps inside: for each place the number of its outcome, the outcomes, and the places in order of arrival. No public clause names these words.
use Rattle.std.specs.Prelude.{ℕ, ◌≡◌, ◌+◌, ◌-◌, ◌≤◌, ◌==◌, List, Some, length, map, not, slice_get, slice_index_or, vec_capacity, eqb}
use Rattle.std.specs.List.{list_any, IsDistinct}
use Rattle.mimic_trial.specs.declared.outcome.Outcome.{Outcome}
use Rattle.mimic_trial.specs.declared.outcome.Outcome.TheVariants.{Passed, Ignored}
use Rattle.mimic_trial.specs.Places.{Placed}
use Rattle.mimic_pool.specs.Arrivals.{Arrived}
use Rattle.mimic_pool.specs.declared.desk.Desk.TheInside.{Inside}

-- the first two outcomes are those that have no text and no numbers
pub record Begins (outcomes : List Outcome) : Type 0 where
  pub passed : slice_get outcomes 0 ≡ Some Passed
  pub ignored : slice_get outcomes 1 ≡ Some Ignored

-- the outcome at the place of a desk with this inside, if something arrived there
abbrev pub outcome_at : Inside → ℕ → Outcome
outcome_at desk place = slice_index_or desk.outcomes.items (slice_index_or desk.numbers.items place 0 - 1) Ignored

-- the places in this order, each with its outcome
abbrev pub rows_of_order : List ℕ → (ℕ → Outcome) → List Placed
rows_of_order order at = map (λ place. (place, at place)) order

-- what a desk with this inside shows
abbrev pub arrived_of : Inside → Arrived
arrived_of desk = record { places = length desk.numbers.items; rows = rows_of_order desk.order.items (outcome_at desk) }

-- a place is in the order exactly if its number isn't 0; none is there twice, each number is that of an outcome, and there is room for all
pub record IsDesk (desk : Inside) : Type 0 where
  pub taken : (place : ℕ) → list_any (eqb place) desk.order.items ≡ not (slice_index_or desk.numbers.items place 0 == 0)
  pub distinct : IsDistinct eqb desk.order.items
  pub begins : Begins desk.outcomes.items
  pub found : (place : ℕ) → slice_index_or desk.numbers.items place 0 ≤ length desk.outcomes.items
  pub few : length desk.outcomes.items ≤ length desk.order.items + 2
  pub outcomes_room : length desk.numbers.items + 2 ≤ vec_capacity desk.outcomes
  pub order_room : length desk.numbers.items ≤ vec_capacity desk.order
