-- Rows, each a place and the outcome there, that are added at one end and taken at the other.
use Rattle.std.specs.Prelude.{ℕ, List}
use Rattle.mimic_trial.specs.Places.{Placed}

-- what they show: the places of all rows that were added, in their order, how many of these rows were taken, those that were not, and how many more there is room for
pub record Returned : Type 0 where
  pub order : List ℕ
  pub taken : ℕ
  pub items : List Placed
  pub room : ℕ

-- the rows that were not taken
abbrev pub rows_in : Returned → List Placed
rows_in returned = returned.items
