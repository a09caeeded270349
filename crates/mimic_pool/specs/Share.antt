-- Shares and batches of trials, and which trials are in a worker's share.
use Rattle.std.specs.Prelude.{ℕ, ◌≡◌, ◌+◌, ◌%◌, ◌<◌, ◌≤◌, ◌==◌, All, Bool, List, [], ◌∷◌, filter, map, slice_index_or, vec_capacity}
use Rattle.mimic_pool.specs.declared.share.Assigned.{Assigned}
use Rattle.mimic_pool.specs.declared.share.Share.{Share}

module _ {X : Type 0} where
  -- what a share holds, in its order
  abbrev pub items_of : Share X → List (Assigned X)
  items_of share = share.items.items

  -- the places of a share, in its order
  abbrev pub places_in : Share X → List ℕ
  places_in share = map (λ item. item.place) (items_of share)

  -- a share has room for this many runners
  abbrev pub HasRoom : ℕ → Share X → Type 0
  HasRoom runners share = runners ≤ vec_capacity share.items

  -- this holds of each runner of a share
  abbrev pub AllRunners : (X → Type 0) → Share X → Type 0
  AllRunners P share = All (λ item. P item.runner) (items_of share)

  -- the runners with their places, counted from this one on, and their flags, as far as both go
  abbrev pub assigned_from : ℕ → List X → List Bool → List (Assigned X)
  assigned_from place [] flags = []
  assigned_from place (runner ∷ runners) [] = []
  assigned_from place (runner ∷ runners)
      (flag ∷ flags) = record { place = place; runner = runner; ignored = flag } ∷ assigned_from
      (place + 1) runners flags

  -- the share of a worker: those whose place, divided by the number of workers, leaves the worker's own, in their order (our own)
  abbrev pub share_of : ℕ → ℕ → List (Assigned X) → List (Assigned X)
  share_of workers worker items = filter (λ item. item.place % workers == worker) items

  -- each worker's share holds the trials of its places
  abbrev pub AreShares : List (Assigned X) → ℕ → List (Share X) → Type 0
  AreShares items workers shares =
      (worker : ℕ) (d : Share X) → worker < workers
      → items_of (slice_index_or shares worker d) ≡ share_of workers worker items

  -- each worker's share holds the runners of its places, each with its place and its flag
  abbrev pub IsDealt : List X → List Bool → ℕ → List (Share X) → Type 0
  IsDealt runners flags workers shares = AreShares (assigned_from 0 runners flags) workers shares
