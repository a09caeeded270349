-- Arrivals, each an outcome at a place, and what a desk makes of them.
use Rattle.std.specs.Prelude.{ℕ, ◌≡◌, ◌==◌, nat_lt, Bool, not, ◌&&◌, if◌then◌else◌, List, [], ◌∷◌, ◌++◌, Option, Some, None, filter, map, slice_get, unwrap_or}
use Rattle.std.specs.List.{list_any, range_with_len}
use Rattle.mimic_trial.specs.declared.outcome.Outcome.{Outcome}
use Rattle.mimic_trial.specs.declared.outcome.Outcome.TheVariants.{Ignored}
use Rattle.mimic_trial.specs.Places.{Placed, places_of}
use Rattle.mimic_pool.specs.declared.desk.Arrival.{Arrival}
use Rattle.mimic_pool.specs.declared.desk.Arrival.TheVariants.{First, Again, Stranger}

-- whether something arrived at the place
abbrev pub has_come : ℕ → List Placed → Bool
has_come place arrivals = list_any (λ a. place == a.0) arrivals

-- the arrival is at a place below n, and the first one there
abbrev pub is_first : ℕ → List Placed → Placed → Bool
is_first n earlier a = nat_lt a.0 n && not (has_come a.0 earlier)

-- the places below n at which nothing came, rising
abbrev pub not_come : ℕ → List Placed → List ℕ
not_come n arrivals = filter (λ place. not (has_come place arrivals)) (range_with_len 0 n)

-- of the arrivals after these earlier ones: those that are first ones, in their order
abbrev pub first_after : ℕ → List Placed → List Placed → List Placed
first_after n earlier [] = []
first_after n earlier (a ∷ arrivals) =
    if is_first n earlier a then a ∷ first_after n (earlier ++ a ∷ []) arrivals else first_after n
    (earlier ++ a ∷ []) arrivals

-- the first arrivals: at each place below n the first one, in the order in which they came (our own)
abbrev pub first_arrivals : ℕ → List Placed → List Placed
first_arrivals n arrivals = first_after n [] arrivals

-- the order of n places in a report: those of the first arrivals, and then those at which nothing came, rising (our own)
abbrev pub order_of : ℕ → List Placed → List ℕ
order_of n arrivals = places_of (first_arrivals n arrivals) ++ not_come n arrivals

-- ---- a desk

-- what a desk shows: its number of places, and the first arrivals
pub record Arrived : Type 0 where
  pub places : ℕ
  pub rows : List Placed

-- what a desk answers to an arrival at the place
abbrev pub arrival_of : Arrived → ℕ → Arrival
arrival_of desk place = if nat_lt place desk.places then
    (if has_come place desk.rows then Again else First) else Stranger

-- the rows after one more arrival: it is their last if it is a first one
abbrev pub rows_after : ℕ → List Placed → Placed → List Placed
rows_after n rows a = if is_first n rows a then rows ++ a ∷ [] else rows

-- the outcome that arrived at the place
abbrev pub arrived_at : ℕ → List Placed → Option Outcome
arrived_at place [] = None
arrived_at place (row ∷ rows) = if place == row.0 then Some row.1 else arrived_at place rows

-- the places at which nothing arrived, rising
abbrev pub missing_of : Arrived → List ℕ
missing_of desk = not_come desk.places desk.rows

-- an outcome that arrived at the place is the joined one there
abbrev pub AgreesAt : List Placed → List Outcome → ℕ → Type 0
AgreesAt rows joined place = (o : Outcome) → arrived_at place rows ≡ Some o → slice_get joined place ≡ Some o

-- the outcome at each place of a desk: the one that arrived there, or Ignored if none did
abbrev pub outcomes_by_place : Arrived → List Outcome
outcomes_by_place desk = map (λ place. unwrap_or (arrived_at place desk.rows) Ignored) (range_with_len 0 desk.places)
