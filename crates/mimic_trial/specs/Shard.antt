-- Shards: which items of a list one of several runs is for.
use Rattle.std.specs.Prelude.{ℕ, ◌+◌, ◌%◌, ◌<◌, ◌==◌, List, [], ◌∷◌, if◌then◌else◌, IsPermutation}
use Rattle.std.specs.List.{flat_map, range_with_len}

-- the items whose place, divided by the count, leaves the index, in their order; the first of all is at `place`
abbrev pub shard_from : {X : Type 0} → ℕ → ℕ → ℕ → List X → List X
shard_from count place index [] = []
shard_from count place index (x ∷ xs) =
    if place % count == index then x ∷ shard_from count (place + 1) index xs else shard_from count (place + 1) index xs

-- the shard of this index, places being counted from 0
abbrev pub shard_of : {X : Type 0} → ℕ → ℕ → List X → List X
shard_of count index xs = shard_from count 0 index xs

-- the shards of all indices have together each item once
abbrev pub ShardsAreAll : Type 0 → Type 0
ShardsAreAll X = (count : ℕ) (xs : List X) → 0 < count
    → IsPermutation (flat_map (λ index. shard_of count index xs) (range_with_len 0 count)) xs
