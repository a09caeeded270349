-- The rows that workers returned, each worker's in a list of its own, beside a desk.
use Rattle.std.specs.Prelude.{◌≡◌, All, List, [], Some, length}
use Rattle.std.specs.List.{range_with_len}
use Rattle.std.specs.List.Sorted.{IsPermutation}
use Rattle.mimic_trial.specs.Places.{Placed, placed_at, places_of}
use Rattle.mimic_pool.specs.Arrivals.{Arrived, arrived_at, missing_of, outcomes_by_place}
use Rattle.mimic_pool.specs.Joined.{put_each}

-- each of the rows is what arrived at its place
abbrev pub HaveArrived : Arrived → List Placed → Type 0
HaveArrived desk rows = All (λ row. arrived_at row.0 desk.rows ≡ Some row.1) rows

-- something arrived at each place, and each row that was returned is what arrived at its place
pub record HasAll (desk : Arrived) (returned : List (List Placed)) : Type 0 where
  pub complete : missing_of desk ≡ []
  pub same : All (HaveArrived desk) returned

-- the desk has what was returned: those rows, put at their places, change none of its outcomes by place, and its own rows are these outcomes, at each place one
pub record StandsFor (desk : Arrived) (returned : List (List Placed)) : Type 0 where
  pub unchanged : put_each returned (outcomes_by_place desk) ≡ outcomes_by_place desk
  pub rows : desk.rows ≡ placed_at (places_of desk.rows) (outcomes_by_place desk)
  pub len : length (outcomes_by_place desk) ≡ desk.places
  pub whole : IsPermutation (places_of desk.rows) (range_with_len 0 desk.places)
