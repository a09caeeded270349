-- What the variables of an environment ask of a program, and which of its trials run then.
use Rattle.std.specs.Prelude.{◌≡◌, ◌≢◌, ◌⊎◌, List, ℕ, [], ◌∷◌, Option, Some, None, IsNone, IsSome, IfSome, Result, Ok, Err, String, is_some, option_map, string_bytes, if◌then◌else◌, ⊤}
use Rattle.std.specs.declared.alloc.Global.{Global}
use Rattle.libtest_mimic.specs.Prelude.{Arguments}
use Rattle.mimic_trial.specs.Shard.{shard_of}
use Rattle.mimic_main.specs.ShardVariables.{GivesShard}
use Rattle.mimic_trial.specs.declared.shard.Shard.{Shard}
use Rattle.mimic_main.specs.declared.shard_variables.ShardFault.{ShardFault}
use Rattle.mimic_main.specs.declared.sharding.Sharding.{Sharding}
use Rattle.mimic_main.specs.declared.sharding.ShardError.{ShardError}
use Rattle.mimic_main.specs.declared.sharding.ShardError.TheVariants.{OutOfMemory, NotUtf8, NoShard, StatusFile}

-- nothing is asked
abbrev pub no_sharding : Sharding
no_sharding = record { shard = None; status_file = None; filter = None }

-- a text that is not empty, if it is set
abbrev pub unless_empty : Option (List ℕ) → Option (List ℕ)
unless_empty None = None
unless_empty (Some []) = None
unless_empty (Some (b ∷ bs)) = Some (b ∷ bs)

-- the four variables, each a text if it is set
pub record Variables : Type 0 where
  pub total : Option (List ℕ)
  pub index : Option (List ℕ)
  pub status_file : Option (List ℕ)
  pub only : Option (List ℕ)

-- what the variables ask: the shard of the pair, and with it the status file; an empty filter is none
pub record Asks (variables : Variables) (sharding : Sharding) : Type 0 where
  pub shard : GivesShard variables.total variables.index (Ok sharding.shard)
  pub status_file : option_map string_bytes sharding.status_file ≡ (if is_some sharding.shard then variables.status_file else None)
  pub filter : option_map string_bytes sharding.filter ≡ unless_empty variables.only

-- a variable can't be read: there is no memory, or it is not UTF-8
abbrev pub IsUnreadable : ShardError → Type 0
IsUnreadable OutOfMemory = ⊤
IsUnreadable (NotUtf8 name) = ⊤
IsUnreadable (NoShard fault) = ⊥
IsUnreadable (StatusFile path cause) = ⊥

-- the pair of some variables has this fault
abbrev pub HasPairFault : ShardError → Type 0
HasPairFault error = (total : Option (List ℕ)) × (index : Option (List ℕ)) × (fault : ShardFault)
    × (error ≡ NoShard fault) × GivesShard total index (Err fault)

-- so some variables were read: they ask this, or their pair has this fault, or one of them can't be read
abbrev pub IsReadSharding : Result Sharding ShardError → Type 0
IsReadSharding (Ok sharding) = (variables : Variables) × Asks variables sharding
IsReadSharding (Err error) = IsUnreadable error ⊎ HasPairFault error

-- the items of the shard, and without one all
abbrev pub items_for : {A : Type 0} → Option Shard → List A → List A
items_for None xs = xs
items_for (Some shard) xs = shard_of shard.count shard.index xs

-- the trials that run, before any filter
abbrev pub trials_of : {A : Type 0} → Sharding → List A → List A
trials_of sharding xs = items_for sharding.shard xs

-- the arguments are those of the line; one without filters has the filter of the environment, if there is one
pub record HasFilterOf (filter : Option (String Global)) (args asked : Arguments) : Type 0 where
  pub none : IsNone filter → asked ≡ args
  pub own : args.filter.items ≢ [] → asked ≡ args
  pub only : args.filter.items ≡ [] → IfSome filter (λ text. asked.filter.items ≡ text ∷ [])
  pub same : asked ≡ record args { filter = asked.filter }

-- no part of the trials can run: there is no memory for a shard or a filter, or the status file of a shard can't be touched
abbrev pub IsPartFault : Sharding → ShardError → Type 0
IsPartFault sharding OutOfMemory = IsSome sharding.shard ⊎ IsSome sharding.filter
IsPartFault sharding (NotUtf8 name) = ⊥
IsPartFault sharding (NoShard fault) = ⊥
IsPartFault sharding (StatusFile path cause) = IsSome sharding.shard × (sharding.status_file ≡ Some path)
