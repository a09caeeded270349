-- The rule of the queue of trials: what was put is what was taken and what is left.
use Rattle.std.specs.Prelude.{◌≡◌, ◌++◌, ◌^◌, ◌≤◌, ℕ, [], All, List, length}
use Rattle.std.specs.List.{flat_map, sum_by}
use Rattle.std.specs.List.Sorted.{IsPermutation}
use mathlib.Core.Option.{some}
use lib.ListN.{get_elem?}
use Rattle.atomic_blocks.specs.declared.web.Seat.{Seat}
use Rattle.crossbeam_queue.specs.declared.seg_queue.Going.{Going}
use Rattle.mimic_pool.specs.declared.shared_queue.Account.{Account}
use Rattle.mimic_pool.specs.declared.shared_queue.TheConstants.{MOST_IN_BATCH}
use Rattle.mimic_pool.specs.declared.share.Assigned.{Assigned}
use Rattle.mimic_pool.specs.declared.share.Share.{Share}
use Rattle.mimic_pool.specs.Share.{AllRunners, items_of}

-- all parts of the right to know the whole
abbrev pub all_parts : ℕ
all_parts = 2 ^ 64

-- what the owner of a pass has put and taken
abbrev pub account_of : {S T V A : Type 0} → Seat S (Going T V) A → V
account_of pass = pass.me.view.client

module _ {X : Type 0} where
  abbrev pub account : ℕ → List (Assigned X) → List (Assigned X) → Account X
  account parts put taken = record { parts = parts; put = put; taken = taken }

  -- who has no part has put and taken nothing
  abbrev pub AreIdleEmpty : List (Account X) → Type 0
  AreIdleEmpty accounts = (port : ℕ) (v : Account X) → get_elem? accounts port ≡ some v → v.parts ≡ 0 → (v.put ≡ []) × (v.taken ≡ [])

  -- the trials that all have put
  abbrev pub puts_of : List (Account X) → List (Assigned X)
  puts_of accounts = flat_map (λ v. v.put) accounts

  -- the trials that all have taken
  abbrev pub takes_of : List (Account X) → List (Assigned X)
  takes_of accounts = flat_map (λ v. v.taken) accounts

  -- the trials of these batches
  abbrev pub trials_in : List (Share X) → List (Assigned X)
  trials_in shares = flat_map items_of shares

  -- each trial of the batch may be run, and there are no more than a batch may have
  pub record IsItem (can_run : X → Type 0) (share : Share X) : Type 0 where
    pub runnable : AllRunners can_run share
    pub few : length (items_of share) ≤ MOST_IN_BATCH

  -- all parts are with those who have an account, and the trials that were put are those that were taken and those that are left
  pub record IsBalanced (can_run : X → Type 0) (shares : List (Share X)) (accounts : List (Account X)) : Type 0 where
    pub parts : sum_by (λ v. v.parts) accounts ≡ all_parts
    pub same : IsPermutation (puts_of accounts) (takes_of accounts ++ trials_in shares)
    pub idle : AreIdleEmpty accounts
    pub items : All (IsItem can_run) shares

  -- who has all parts knows that the trials that it put are those that it took and those that are left
  abbrev pub Balances : Account X → List (Share X) → Type 0
  Balances v shares = v.parts ≡ all_parts → IsPermutation v.put (v.taken ++ trials_in shares)

  -- the batch was taken, its trials may be run, and who has all parts has not taken more than it put
  pub record Took (can_run : X → Type 0) (v : Account X) (share : Share X) (w : Account X) : Type 0 where
    pub is : w ≡ account v.parts v.put (v.taken ++ items_of share)
    pub item : IsItem can_run share
    pub below : v.parts ≡ all_parts → length (v.taken ++ items_of share) ≤ length v.put
