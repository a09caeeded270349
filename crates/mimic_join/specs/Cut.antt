-- Reports of shards of which some are cut, can't be read or are absent, and what a join of them leaves.
use Rattle.std.specs.Prelude.{◌≡◌, ◌⊎◌, ℕ, ◌-◌, ◌^◌, ◌≤◌, Bool, false, List, [], ◌∷◌, ◌++◌, length, map, min, sum, Option, IfSome, Result, Ok, Err}
use Rattle.std.specs.List.{AllZip, flat_map, list_all}
use Rattle.std.specs.Option.{option_to_list}
use Rattle.mimic_printer.specs.Json.{json_title}
use Rattle.mimic_printer.specs.Sink.{Put, Shown, Stopped}
use Rattle.mimic_events.specs.Contents.{entry_read}
use Rattle.mimic_events.specs.Readings.{IsReading, is_whole}
use Rattle.mimic_events.specs.Written.{row_lines}
use Rattle.mimic_events.specs.declared.ending.Ending.TheVariants.{Whole, Cut, Failed}
use Rattle.mimic_events.specs.declared.report.Report.{Report}
use Rattle.mimic_events.specs.declared.report.Row.{Row}
use Rattle.mimic_events.specs.declared.taker.RowsRead.{RowsRead}
use Rattle.mimic_join.specs.Inputs.{Leaves}
use Rattle.mimic_join.specs.Turns.{in_turn}
use Rattle.mimic_join.specs.declared.cut.Joined.{Joined}
use Rattle.mimic_join.specs.declared.cut.Joined.TheVariants as joined
use Rattle.mimic_join.specs.declared.faults.JoinFault.{JoinFault}
use Rattle.mimic_join.specs.declared.faults.JoinFault.TheVariants as fault

-- this was read of the inputs, if their bytes are known, in their order
abbrev pub AreReadOf : List (Option (List ℕ)) → List RowsRead → Type 0
AreReadOf inputs reads = AllZip (λ input read. IfSome input (IsReading (map entry_read read.rows.items) read.ending)) inputs reads

-- whether all of each report was read
abbrev pub are_whole : List RowsRead → Bool
are_whole reads = list_all (λ read. is_whole read.ending) reads

-- the rows that have ended in a report, and none if its reader failed
abbrev pub ended_rows : RowsRead → List Row
ended_rows read = elim read.ending [
  | Whole filtered_out nanos ↦ read.rows.items
  | Cut stop ↦ read.rows.items
  | Failed error ↦ []
]

-- how many trials its title announces, if it has one
abbrev pub title_in : RowsRead → List ℕ
title_in read = elim read.ending [
  | Whole filtered_out nanos ↦ length read.rows.items ∷ []
  | Cut stop ↦ option_to_list stop.announced
  | Failed error ↦ []
]

-- the numbers that the titles announce
abbrev pub titles_in : List RowsRead → List ℕ
titles_in reads = flat_map title_in reads

-- a report with these titles' sum in its title, at most 2^64 - 1, and these rows, without a summary; nothing without a title
abbrev pub cut_report : List ℕ → List Row → List ℕ
cut_report [] rows = []
cut_report (title ∷ titles) rows = json_title (min (sum (title ∷ titles)) (2 ^ 64 - 1)) ++ flat_map row_lines rows

-- the cut report of what was read: the rows that have ended come in turn
unfoldable pub cut_text : List RowsRead → List ℕ
cut_text reads = cut_report (titles_in reads) (in_turn (map ended_rows reads))

-- a shard has no report, or one that was not read to its end
abbrev pub IsPartial : ℕ → List RowsRead → Type 0
IsPartial shards reads = shards ≤ length reads → are_whole reads ≡ false

-- what was read of the inputs, if it isn't whole
pub record ArePartial (inputs : List (Option (List ℕ))) (shards : ℕ) (reads : List RowsRead) : Type 0 where
  pub read : AreReadOf inputs reads
  pub partial : IsPartial shards reads

-- what a join of inputs leaves some of which may be cut: what `join_reports` leaves, or a cut report
abbrev pub LeavesCut : List (Option (List ℕ)) → ℕ → Bool → Shown → Shown → Result Joined JoinFault → Type 0
LeavesCut inputs shards equal_names old new (Ok (joined.Whole counts)) = Leaves inputs shards equal_names old new (Ok counts)
LeavesCut inputs shards equal_names old new (Ok (joined.Cut reads)) =
    ArePartial inputs shards reads.items × Put old new (cut_text reads.items)
LeavesCut inputs shards equal_names old new (Err fault.OutOfMemory) = new ≡ old
LeavesCut inputs shards equal_names old new (Err (fault.Input place why)) = ⊥
LeavesCut inputs shards equal_names old new (Err (fault.Refused refusal)) =
    Leaves inputs shards equal_names old new (Err (fault.Refused refusal))
LeavesCut inputs shards equal_names old new (Err (fault.Write error)) =
    Leaves inputs shards equal_names old new (Err (fault.Write error))
    ⊎ ((reads : List RowsRead) × ArePartial inputs shards reads × Stopped old new (cut_text reads))

-- ---- what the private writers promise one another. No public clause names these words

-- the report, if all of it was read
abbrev pub wholes_in : RowsRead → List Report
wholes_in read = elim read.ending [
  | Whole filtered_out nanos ↦ record { rows = read.rows; filtered_out = filtered_out; nanos = nanos } ∷ []
  | Cut stop ↦ []
  | Failed error ↦ []
]
