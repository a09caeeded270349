-- What the runs of all shards report of the whole list of trials, and their joined report.
use Rattle.std.specs.Prelude.{◌≡◌, ◌&&◌, ℕ, ◌<◌, List, map, IsPermutation}
use Rattle.std.specs.List.{AllZip, range_with_len}
use Rattle.libtest_mimic.specs.Suite.{AreTimed, IsTime, filtered_out_of, has_time}
use Rattle.libtest_mimic.specs.Arrangement.{IsArrangement, IsOwn}
use Rattle.libtest_mimic.specs.Selection.{IsSelection}
use Rattle.mimic_args.specs.declared.Arguments.{Arguments}
use Rattle.mimic_trial.specs.declared.trial.Trial.{Trial}
use Rattle.mimic_trial.specs.Places.{Placed}
use Rattle.mimic_trial.specs.Promise.{Gives}
use Rattle.mimic_trial.specs.Trial.{info_of}
use Rattle.mimic_printer.specs.Row.{label_of, labels_of, rows_at}
use Rattle.mimic_printer.specs.Json.{Contents, Entry}
use Rattle.mimic_events.specs.Contents.{contents_read}
use Rattle.mimic_events.specs.declared.report.Report.{Report}
use Rattle.mimic_join.specs.Joined.{IsJoined, all_of}
use Rattle.mimic_trial.specs.Shard.{shard_of}

-- the shards of all indices, in their order
abbrev pub shards_of : {X : Type 0} → ℕ → List X → List (List X)
shards_of count xs = map (λ index. shard_of count index xs) (range_with_len 0 count)

-- The law of selection: what the arguments select of all shards is what they select of the whole list, each trial once.
abbrev pub SelectsShards : Type 0 → Type 0
SelectsShards R = (args : Arguments) (count : ℕ) (trials selected : List (Trial R)) (selections : List (List (Trial R)))
    → 0 < count
    → AllZip (λ shard selection. IsSelection args shard selection) (shards_of count trials) selections
    → IsSelection args trials selected → IsPermutation (all_of selections) selected

module _ {R : Type 0} (gives : Gives R) where
  -- the entry has the trial's name and kind, an own outcome of it, and a time if times are asked for and the outcome has one
  abbrev pub IsEntryOf : Arguments → Trial R → Entry → Type 0
  IsEntryOf args trial entry = (entry.label ≡ label_of (info_of trial)) × IsOwn gives args trial entry.outcome
      × IsTime (args.report_time && has_time entry.outcome) entry.nanos

  -- a report of these trials: in some order an entry of each selected trial, each once, and the number of the others
  pub record ReportsTrials (args : Arguments) (trials : List (Trial R)) (report : Contents) : Type 0 where
    pub selected : List (Trial R)
    pub selection : IsSelection args trials selected
    pub entries : List Entry
    pub own : AllZip (IsEntryOf args) selected entries
    pub order : IsPermutation report.entries entries
    pub filtered_out : report.filtered_out ≡ filtered_out_of trials selected

  -- The law of runs: what a run writes, whatever the order of its trials, is a report of the trials that it was given.
  abbrev pub RunsReport : Type 0
  RunsReport = (args : Arguments) (trials selected : List (Trial R)) (placed : List Placed) (report : Contents)
      → IsSelection args trials selected → IsArrangement gives args selected placed
      → AreTimed args.report_time (rows_at (labels_of selected) placed) report.entries → report.filtered_out ≡ filtered_out_of trials selected
      → ReportsTrials args trials report

  -- The law from end to end: if for each shard there is a report of its trials, the joined report is one of all trials.
  abbrev pub JoinsRuns : Type 0
  JoinsRuns = (args : Arguments) (count : ℕ) (trials : List (Trial R)) (reports : List Report) (joined : Report) → 0 < count
      → AllZip (λ shard report. ReportsTrials args shard (contents_read report)) (shards_of count trials) reports
      → IsJoined reports joined → ReportsTrials args trials (contents_read joined)

  -- what holds of the runs of all shards
  pub record ShardLaws : Type 0 where
    pub runs : RunsReport
    pub joins : JoinsRuns
    pub selects : SelectsShards R
