-- What holds of all trials holds of a part of them, and a program of which no variable asks anything runs all.
use Rattle.std.proofs.Common.{◌≡◌, ℕ, inl, inr, List, Option, None, Some, Ok, Err, Result, refl, subst, sym}
use Rattle.std.proofs.lemmas.Bool.{false≢true}
use Rattle.std.specs.Prelude.{All}
use Rattle.libtest_mimic.specs.Prelude.{Arguments, Asked, Trial, Watched}
use Rattle.mimic_args.specs.declared.error.ArgumentsError.{ArgumentsError}
use Rattle.mimic_args.specs.declared.error.ArgumentsError.TheVariants.{OutOfMemory, Help, Refused}
use Rattle.libtest_mimic.specs.Stopwatch.{nothing}
use Rattle.mimic_trial.proofs.AllShards.{all_of_shard}
use Rattle.mimic_trial.specs.declared.shard.Shard.{Shard}
use Rattle.mimic_main.specs.Ended.{EndsAsAsked, EndsInPart, EndsSomehow, RanLine}
use Rattle.mimic_main.specs.Sharding.{HasFilterOf, IsPartFault, items_for, no_sharding, trials_of}
use Rattle.mimic_main.specs.declared.sharding.Sharding.{Sharding}
use Rattle.mimic_main.specs.declared.sharding.ShardError.{ShardError}

module _ {X : Type 0} (P : X → Type 0) where
  all_of_part : (shard : Option Shard) (xs : List X) → All P xs → All P (items_for shard xs)
  all_of_part None xs all = all
  all_of_part (Some shard) xs all = all_of_shard P shard.count shard.index xs all

  pub all_taken : (shard : Option Shard) (xs taken : List X) → taken ≡ items_for shard xs → All P xs → All P taken
  all_taken shard xs taken e all = subst (All P) (sym e) (all_of_part shard xs all)

-- a run of the part's trials is one in the part
pub ends_in_part : {R : Type 0} (ask : List (Trial R) → Arguments → Asked R) (trials taken : List (Trial R)) (args asked : Arguments) (sharding : Sharding) (old got : Option (List ℕ)) (watch : Watched) (status : ℕ)
    → HasFilterOf sharding.filter args asked → taken ≡ trials_of sharding trials → RanLine (ask taken asked) old got watch status → EndsInPart ask trials args sharding status
ends_in_part {R = R} ask trials taken args asked sharding old got watch status filter e ran =
    let Ran : List (Trial R) → Type 0 = λ l. RanLine (ask l asked) old got watch status in inl (asked, filter, old, got, watch, subst Ran e ran)

-- nothing can be in the way if nothing is asked
no_fault : (error : ShardError) → IsPartFault no_sharding error → ⊥
no_fault ShardError.OutOfMemory (inl h) = false≢true h
no_fault ShardError.OutOfMemory (inr h) = false≢true h
no_fault (ShardError.NotUtf8 name) h = h
no_fault (ShardError.NoShard fault) h = h
no_fault (ShardError.StatusFile path cause) h = false≢true h.0

pub ends_whole : {R : Type 0} (ask : List (Trial R) → Arguments → Asked R) (trials : List (Trial R)) (line : Result Arguments ArgumentsError) (status : ℕ)
    → EndsAsAsked ask trials line (Ok no_sharding) status → EndsSomehow (ask trials) line status
ends_whole ask trials (Err OutOfMemory) status e = (None, None, nothing, (e, refl))
ends_whole ask trials (Err (Help text)) status e = (None, None, nothing, (e, tt))
ends_whole ask trials (Err (Refused text)) status e = (None, None, nothing, (e, refl))
ends_whole ask trials (Ok args) status (inl h) =
    let Ends : Arguments → Type 0 = λ a. EndsSomehow (ask trials) (Ok a) status in subst Ends (h.1.none refl) (h.2, h.3, h.4, h.5)
ends_whole ask trials (Ok args) status (inr h) = absurd (no_fault h.0 h.1)
