-- The reports of shards as one report.
use Rattle.std.specs.Prelude.{◌≡◌, ◌≢◌, ◌↔◌, ℕ, ◌+◌, ◌<◌, ◌≤◌, ◌^◌, Bool, false, List, length, map, sum, max, fold, Contains, AllPairs, Result, MatchResult, slice_index_or, take, IsPermutation}
use Rattle.std.specs.List.{AllZip, flat_map, range_with_len}
use Rattle.mimic_printer.specs.Json.{Contents, Entry}
use Rattle.mimic_printer.specs.Row.{Label}
use Rattle.mimic_events.specs.Contents.{entry_read}
use Rattle.mimic_events.specs.Key.{label_in}
use Rattle.mimic_events.specs.declared.report.Report.{Report}
use Rattle.mimic_events.specs.declared.report.Row.{Row}
use Rattle.mimic_trial.specs.Shard.{shard_of}
use Rattle.mimic_join.specs.declared.join.Refusal.{Refusal}
use Rattle.mimic_join.specs.declared.join.Refusal.TheVariants.{Number, Uneven, NamedTwice, TooMany}
use Rattle.mimic_join.specs.Turns.{ShardsInTurn, TurnsAreAll, in_turn}

-- the rows of a report
abbrev pub rows_in : Report → List Row
rows_in report = report.rows.items

-- the time of a report, in nanoseconds
abbrev pub time_of : Report → ℕ
time_of report = report.nanos

-- the greatest of the numbers, and 0 of none
abbrev pub greatest : List ℕ → ℕ
greatest ns = fold max 0 ns

-- how many trials were filtered out of all runs together
abbrev pub filtered_out_of : List Report → ℕ
filtered_out_of reports = sum (map (λ report. report.filtered_out) reports)

-- the report has the rows of all reports in turn, all that was filtered out, and the time of the longest run
pub record IsJoined (reports : List Report) (joined : Report) : Type 0 where
  pub rows : joined.rows.items ≡ in_turn (map rows_in reports)
  pub filtered_out : joined.filtered_out ≡ filtered_out_of reports
  pub nanos : joined.nanos ≡ greatest (map time_of reports)

-- what such a report says
abbrev pub joined_contents : List Report → Contents
joined_contents reports = record {
  entries = map entry_read (in_turn (map rows_in reports));
  filtered_out = filtered_out_of reports;
  nanos = greatest (map time_of reports);
}

-- ---- what is refused

-- how many trials were given to the run: its rows, and those that it filtered out
abbrev pub trials_in : Report → ℕ
trials_in report = length report.rows.items + report.filtered_out

-- the later report has as many trials as the earlier one, or one less
pub record FallsByOne (earlier later : Report) : Type 0 where
  pub no_rise : trials_in later ≤ trials_in earlier
  pub one : trials_in earlier ≤ trials_in later + 1

-- the kinds and names that the rows of a report show
abbrev pub labels_in : Report → List Label
labels_in report = map label_in report.rows.items

-- no kind and name is in both reports
abbrev pub HaveOwnNames : Report → Report → Type 0
HaveOwnNames earlier later = (label : Label) → Contains (labels_in earlier) label → ¬ Contains (labels_in later) label

-- the reports can be those of `shards` shards of one list, in the order of their indices
pub record CanBeShards (shards : ℕ) (equal_names : Bool) (reports : List Report) : Type 0 where
  pub number : length reports ≡ shards
  pub even : AllPairs FallsByOne reports
  pub names : equal_names ≡ false → AllPairs HaveOwnNames reports

-- the report at the place has more trials than one before it, or at least two less
pub record IsUneven (reports : List Report) (place : ℕ) : Type 0 where
  pub earlier : ℕ
  pub before : earlier < place
  pub within : place < length reports
  pub odd : (d : Report) → ¬ FallsByOne (slice_index_or reports earlier d) (slice_index_or reports place d)

-- this row of the report at the place has a kind and a name that are in a report before it
pub record IsNamedTwice (reports : List Report) (place row : ℕ) : Type 0 where
  pub within : place < length reports
  pub row_within : (d : Report) → row < length (slice_index_or reports place d).rows.items
  pub again : (d : Report) (e : Row) → Contains (flat_map labels_in (take place reports))
      (label_in (slice_index_or (slice_index_or reports place d).rows.items row e))

-- why the reports are not joined
abbrev pub IsRefused : ℕ → Bool → List Report → Refusal → Type 0
IsRefused shards equal_names reports (Number n m) = (n ≡ length reports) × (m ≡ shards) × (n ≢ m)
IsRefused shards equal_names reports (Uneven place) = IsUneven reports place
IsRefused shards equal_names reports (NamedTwice place row) = (equal_names ≡ false) × IsNamedTwice reports place row
IsRefused shards equal_names reports TooMany = 2 ^ 64 ≤ filtered_out_of reports

-- the joined report if the reports can be those of the shards, and else why there is none
abbrev pub Joins : ℕ → Bool → List Report → Result Report Refusal → Type 0
Joins shards equal_names reports answer = MatchResult answer
    (λ joined. CanBeShards shards equal_names reports × IsJoined reports joined)
    (IsRefused shards equal_names reports)

-- ---- reports of shards

-- what the rows of a report say
abbrev pub entries_in : Report → List Entry
entries_in report = map entry_read report.rows.items

-- the lists as one
abbrev pub all_of : {X : Type 0} → List (List X) → List X
all_of xss = flat_map (λ xs. xs) xss

-- each of the lists in some order
abbrev pub EachInSomeOrder : {X : Type 0} → List (List X) → List (List X) → Type 0
EachInSomeOrder xss yss = AllZip IsPermutation xss yss

-- The law of shards. Each trial has its entries: one, or none if it is not selected. If there is a report of each shard, in
-- the order of the indices, they have joined the entries of each trial once.
abbrev pub JoinsShards : Type 0
JoinsShards = (count : ℕ) (entries : List (List Entry)) (reports : List Report) (joined : Report) → 0 < count
    → EachInSomeOrder (map entries_in reports) (map (λ index. all_of (shard_of count index entries)) (range_with_len 0 count))
    → IsJoined reports joined → IsPermutation (entries_in joined) (all_of entries)

-- The law of order. If nothing is filtered out, and each shard's report has its entries in their order, as with one thread, the
-- joined report has all of them in the order of the list.
abbrev pub JoinsInOrder : Type 0
JoinsInOrder = (count : ℕ) (entries : List Entry) (reports : List Report) (joined : Report) → 0 < count
    → map entries_in reports ≡ map (λ index. shard_of count index entries) (range_with_len 0 count)
    → IsJoined reports joined → entries_in joined ≡ entries

-- The law of numbers: exactly if the numbers of trials fall by at most one, they are those in the shards of some list.
abbrev pub FallsAreShards : Type 0
FallsAreShards = (reports : List Report) → 0 < length reports
    → AllPairs FallsByOne reports ↔ ((xs : List ℕ)
    × (map trials_in reports ≡ map (λ index. length (shard_of (length reports) index xs)) (range_with_len 0 (length reports))))

-- what holds of all reports that are joined
pub record JoinLaws : Type 0 where
  pub turns : TurnsAreAll Row
  pub shards : ShardsInTurn Row
  pub numbers : FallsAreShards
  pub entries : JoinsShards
  pub order : JoinsInOrder
