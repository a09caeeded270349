-- The shard that two variables of the environment name.
use Rattle.std.specs.Prelude.{◌≡◌, ℕ, ◌<◌, ◌≤◌, ◌^◌, List, Option, Some, None, Result, Ok, Err}
use Rattle.std.specs.Str.Parse.{IsNumeral, digits_value}
use Rattle.mimic_trial.specs.declared.shard.Shard.{Shard}
use Rattle.mimic_main.specs.declared.shard_variables.ShardFault.{ShardFault}
use Rattle.mimic_main.specs.declared.shard_variables.ShardFault.TheVariants.{NoTotal, NoIndex, InvalidTotal, InvalidIndex}

-- the text is decimal digits alone, and they write this number, which fits in a `usize`
abbrev pub IsNumber : List ℕ → ℕ → Type 0
IsNumber text n = IsNumeral 10 text × (digits_value 10 text ≡ n) × (n < 2 ^ 64)

-- what a total and an index give: a shard if they are numbers and the index is below the total
abbrev pub IsNamedBy : List ℕ → List ℕ → Result Shard ShardFault → Type 0
IsNamedBy total index (Ok shard) = IsNumber total shard.count × IsNumber index shard.index
IsNamedBy total index (Err NoTotal) = ⊥
IsNamedBy total index (Err NoIndex) = ⊥
IsNamedBy total index (Err InvalidTotal) = (count : ℕ) → IsNumber total count → count ≡ 0
IsNamedBy total index (Err InvalidIndex) =
    (count : ℕ) × IsNumber total count × (0 < count) × ((n : ℕ) → IsNumber index n → count ≤ n)

-- what the two variables give, each of them a text if it is set
abbrev pub GivesShard : Option (List ℕ) → Option (List ℕ) → Result (Option Shard) ShardFault → Type 0
GivesShard None None answer = answer ≡ Ok None
GivesShard None (Some index) answer = answer ≡ Err NoTotal
GivesShard (Some total) None answer = answer ≡ Err NoIndex
GivesShard (Some total) (Some index) (Ok None) = ⊥
GivesShard (Some total) (Some index) (Ok (Some shard)) = IsNamedBy total index (Ok shard)
GivesShard (Some total) (Some index) (Err fault) = IsNamedBy total index (Err fault)
