-- What the rows of workers are: that they run the trials, what they returned, and what is refused.
use Rattle.std.specs.Prelude.{◌≡◌, ◌≢◌, ◌⊎◌, ◌<◌, ◌≤◌, ◌++◌, ℕ, All, Bool, List, [], Some, false, length, map, true, Result, MatchResult, slice_get, slice_index_or, vec_capacity, vec_len}
use Rattle.std.specs.List.{Contains, flat_map, range_with_len}
use Rattle.std.specs.List.Sorted.{IsPermutation}
use Rattle.mimic_trial.specs.declared.outcome.Outcome.{Outcome}
use Rattle.mimic_trial.specs.declared.trial.TestInfo.{TestInfo}
use Rattle.mimic_trial.specs.Places.{Placed, placed_at, places_of}
use Rattle.mimic_trial.specs.Promise.{Gives, IsOutcomeOf}
use Rattle.mimic_pool.specs.Arrivals.{AgreesAt, Arrived, arrived_at}
use Rattle.mimic_pool.specs.Joined.{AreJoined, AreOutcomes, put_each}
use Rattle.mimic_pool.specs.declared.share.Assigned.{Assigned}
use Rattle.mimic_printer.specs.declared.Printer.{Printer}
use Rattle.mimic_printer.specs.Report.{rows_text}
use Rattle.mimic_printer.specs.Row.{PrintedRow, label_of, rows_at}
use Rattle.mimic_printer.specs.Sink.{Put, Shown, Stopped}
use Rattle.libtest_mimic.specs.declared.running.RunError.{RunError}
use Rattle.libtest_mimic.specs.declared.running.RunError.TheVariants.{OutOfMemory, Write, ZeroThreads, Spawn, Arrival}
use Rattle.libtest_mimic.specs.declared.running.gathering.Started.{Started}
use Rattle.libtest_mimic.specs.Run.{Follows}
use Rattle.libtest_mimic.specs.Suite.{AreTimed}

-- nothing has arrived, and there is a place and room for an outcome of each of `count` trials
pub record IsReadyFor {R : Type 0} (started : Started R) (count : ℕ) : Type 0 where
  pub desk : started.desk ≡ record { places = count; rows = [] }
  pub empty : vec_len started.room ≡ 0
  pub fits : count ≤ vec_capacity started.room

-- the error names the least place at which the outcome that arrived first isn't the one in `outcomes`
pub record NamesDifference (desk : Arrived) (outcomes : List Outcome) (error : RunError) : Type 0 where
  pub place : ℕ
  pub named : error ≡ Arrival place
  pub below : place < desk.places
  pub differs : ¬ AgreesAt desk.rows outcomes place
  pub least : (earlier : ℕ) → earlier < place → AgreesAt desk.rows outcomes earlier

-- what arrived was returned by workers: at its place is the same outcome in the end, and was another one before
pub record IsReturned (desk : Arrived) (before outcomes : List Outcome) : Type 0 where
  pub others : (place : ℕ) (o : Outcome) → arrived_at place desk.rows ≡ Some o → slice_get before place ≢ Some o
  pub agrees : (place : ℕ) → AgreesAt desk.rows outcomes place

-- each place has its row: those that had arrived come first, and each has the outcome that the workers returned, if these were put
-- over some outcomes, one for each place; unless the workers ran all trials, what had arrived was returned, too
pub record IsCompleted (whole : Bool) (old : Arrived) (joined : List (List Placed)) (new : Arrived) : Type 0 where
  pub outcomes : List Outcome
  pub count : length outcomes ≡ old.places
  pub missing : List Placed
  pub rows : new.rows ≡ old.rows ++ missing
  pub returned : new.rows ≡ placed_at (places_of new.rows) (put_each joined outcomes)
  pub all : IsPermutation (places_of new.rows) (range_with_len 0 old.places)
  pub arrived : whole ≡ false → IsReturned old outcomes (put_each joined outcomes)

-- something else arrived than the workers returned, or they returned nothing there
pub record IsDifference (desk : Arrived) (joined : List (List Placed)) (error : RunError) : Type 0 where
  pub outcomes : List Outcome
  pub count : length outcomes ≡ desk.places
  pub others : (place : ℕ) (o : Outcome) → arrived_at place desk.rows ≡ Some o → slice_get outcomes place ≢ Some o
  pub named : NamesDifference desk (put_each joined outcomes) error

-- the desk was completed with what the workers returned, unless something else had arrived
abbrev pub Completes : {T : Type 0} → Bool → Arrived → List (List Placed) → Arrived → Result T RunError → Type 0
Completes whole old joined new result = MatchResult result (λ _. IsCompleted whole old joined new) (IsDifference old joined)

-- these rows are of outcomes at places, each with a time as asked
abbrev pub AreRowsOf : Bool → List TestInfo → List Placed → List PrintedRow → Type 0
AreRowsOf asked infos placed rows = AreTimed asked (rows_at (map label_of infos) placed) rows

-- rows are refused for a write fault, or for an outcome that isn't the one that arrived
abbrev pub IsOfRows : RunError → Type 0
IsOfRows OutOfMemory = ⊥
IsOfRows (Write fault) = Unit {0}
IsOfRows ZeroThreads = ⊥
IsOfRows Spawn = ⊥
IsOfRows (Arrival place) = Unit {0}

-- the place is the least one whose first row among those that arrived is none that a worker returned
pub record IsLeastDifference (arrived : List Placed) (returned : List (List Placed)) (place : ℕ) : Type 0 where
  pub outcome : Outcome
  pub first : arrived_at place arrived ≡ Some outcome
  pub differs : ¬ Contains (flat_map (λ rows. rows) returned) (place, outcome)
  pub least : (earlier : ℕ) (o : Outcome) → earlier < place → arrived_at earlier arrived ≡ Some o
      → Contains (flat_map (λ rows. rows) returned) (earlier, o)

module _ {R : Type 0} (gives : Gives R) (test_mode : Bool) (items : List (Assigned R)) where
  -- there is an outcome of each item at its place, and the order has each place once
  pub record Gathered (order : List ℕ) (outcomes : List Outcome) : Type 0 where
    pub answered : AreOutcomes gives test_mode items outcomes
    pub whole : IsPermutation order (range_with_len 0 (length items))

  -- an outcome of each item arrived at its place, and each place once
  pub record IsGathered (desk : Arrived) : Type 0 where
    pub outcomes : List Outcome
    pub gathered : Gathered (places_of desk.rows) outcomes
    pub rows : desk.rows ≡ placed_at (places_of desk.rows) outcomes

  -- the outcome of the row is one of the item at its place
  abbrev pub IsRowOf : Placed → Type 0
  IsRowOf row = (row.0 < length items)
      × ((x : Assigned R) → IsOutcomeOf gives (slice_index_or items row.0 x).ignored (slice_index_or items row.0 x).runner test_mode row.1)

  -- these are rows of items, each once, and the places of all other items
  pub record GatheredSome (placed : List Placed) (left : List ℕ) : Type 0 where
    pub own : All IsRowOf placed
    pub places : IsPermutation (places_of placed ++ left) (range_with_len 0 (length items))

  -- the text was written, and the workers returned rows of all items; or a beginning of it was, and they returned rows of all items
  -- if they run all
  abbrev pub WrittenAndReturned : Bool → List ℕ → Shown → Shown → List (List Placed) → Type 0
  WrittenAndReturned all text old new returned =
      (Put old new text × AreJoined gives test_mode items true returned)
      ⊎ (Stopped old new text × AreJoined gives test_mode items all returned)

  -- outcomes arrived, each at a place of its own, and their rows were written, or a beginning of them was; the workers returned
  -- rows; and the place is the least one at which these two differ
  pub record NamesLeast (all : Bool) (AreRows : List Placed → List PrintedRow → Type 0) (p : Printer) (old new : Shown) (place : ℕ) : Type 0 where
    pub arrived : List Placed
    pub missing : List ℕ
    pub once : IsPermutation (places_of arrived ++ missing) (range_with_len 0 (length items))
    pub returned : List (List Placed)
    pub rows : List PrintedRow
    pub are : AreRows arrived rows
    pub written : WrittenAndReturned all (rows_text p rows) old new returned
    pub least : IsLeastDifference arrived returned place

  -- what was written if rows were refused: if a write failed, a beginning of rows of what the workers returned, and no item is left
  -- if these run all; if an outcome that arrived isn't the one that its worker returned, what had arrived, and its place is the least
  abbrev pub GatheringRefused : Bool → (List Placed → List PrintedRow → Type 0) → Printer → Shown → Shown → RunError → Type 0
  GatheringRefused all AreRows p old new OutOfMemory = ⊥
  GatheringRefused all AreRows p old new (Write fault) =
      (placed : List Placed) × (left : List ℕ) × (rows : List PrintedRow) × GatheredSome placed left × (all ≡ true → left ≡ [])
      × AreRows placed rows × Stopped old new (rows_text p rows)
  GatheringRefused all AreRows p old new ZeroThreads = ⊥
  GatheringRefused all AreRows p old new Spawn = ⊥
  GatheringRefused all AreRows p old new (Arrival place) =
      (place < length items) × Follows old new × NamesLeast all AreRows p old new place
