-- Lists in turn: the first items of all lists, then their second items, and so on.
use Rattle.std.specs.Prelude.{◌≡◌, ℕ, ◌<◌, List, [], ◌∷◌, map, IsPermutation}
use Rattle.std.specs.List.{flat_map, range_with_len}
use Rattle.mimic_trial.specs.Shard.{shard_of}

-- the rounds with one more list, which comes before the others: each of its items is the first of its round
abbrev pub before : {X : Type 0} → List X → List (List X) → List (List X)
before [] rounds = rounds
before (x ∷ xs) [] = (x ∷ []) ∷ before xs []
before (x ∷ xs) (round ∷ rounds) = (x ∷ round) ∷ before xs rounds

-- the rounds of the lists: the first items of those that have one, in the order of the lists, then the second items, and so on
abbrev pub rounds_of : {X : Type 0} → List (List X) → List (List X)
rounds_of [] = []
rounds_of (xs ∷ xss) = before xs (rounds_of xss)

-- the items of all lists in turn, one round after another
abbrev pub in_turn : {X : Type 0} → List (List X) → List X
in_turn xss = flat_map (λ round. round) (rounds_of xss)

-- the first law of turns: each item of each list comes once
abbrev pub TurnsAreAll : Type 0 → Type 0
TurnsAreAll X = (xss : List (List X)) → IsPermutation (in_turn xss) (flat_map (λ xs. xs) xss)

-- the second law of turns: the shards of all indices, in turn, are the list that they are shards of, in its order
abbrev pub ShardsInTurn : Type 0 → Type 0
ShardsInTurn X = (count : ℕ) (xs : List X) → 0 < count
    → in_turn (map (λ index. shard_of count index xs) (range_with_len 0 count)) ≡ xs
