-- Places of trials, counted from 0, and the outcomes there.
use Rattle.std.specs.Prelude.{◌≡◌, ℕ, List, [], ◌∷◌, length, map, slice_get, Option, None, Some}
use Rattle.std.specs.List.{flat_map, range_with_len}
use Rattle.mimic_trial.specs.declared.outcome.Outcome.{Outcome}

-- a place among the trials, counted from 0, and the outcome of the trial there
abbrev pub Placed : Type 0
Placed = ℕ × Outcome

abbrev pub places_of : List Placed → List ℕ
places_of placed = map (λ p. p.0) placed

-- the places are 0, 1, ..
abbrev pub InOrder : List Placed → Type 0
InOrder placed = places_of placed ≡ range_with_len 0 (length placed)

-- a place with the outcome there, if there is one
abbrev pub placed_if : ℕ → Option Outcome → List Placed
placed_if place None = []
placed_if place (Some outcome) = (place, outcome) ∷ []

-- the places in this order, each with the outcome there; a place that has none is left out
abbrev pub placed_at : List ℕ → List Outcome → List Placed
placed_at order outcomes = flat_map (λ place. placed_if place (slice_get outcomes place)) order
