-- What inputs are that reports are read from, and what a join of them leaves.
use Rattle.std.specs.Prelude.{◌≡◌, ℕ, ◌^◌, ◌<◌, Bool, List, length, slice_index_or, take, Option, None, Result, Ok, Err, ⊤}
use Rattle.std.specs.List.{AllZip}
use Rattle.mimic_trial.specs.declared.outcome.Conclusion.{Conclusion}
use Rattle.mimic_printer.specs.Json.{conclusion_of, json_report}
use Rattle.mimic_printer.specs.Sink.{Put, Shown, Stopped}
use Rattle.mimic_events.specs.declared.report.Report.{Report}
use Rattle.mimic_events.specs.Inputs.{GivesNone, IsReportIn}
use Rattle.mimic_events.specs.declared.input.ReadFault.{ReadFault}
use Rattle.mimic_join.specs.Joined.{CanBeShards, IsRefused, filtered_out_of, joined_contents}
use Rattle.mimic_join.specs.declared.join.Refusal.{Refusal}
use Rattle.mimic_join.specs.declared.faults.JoinFault.{JoinFault}
use Rattle.mimic_join.specs.declared.faults.JoinFault.TheVariants as join

-- ---- several inputs

-- the inputs are these reports, in their order
abbrev pub AreReportsIn : List (Option (List ℕ)) → List Report → Type 0
AreReportsIn inputs reports = AllZip IsReportIn inputs reports

-- the inputs before the place are reports, and the one at it gives none
pub record FailsAt (inputs : List (Option (List ℕ))) (place : ℕ) (fault : ReadFault) : Type 0 where
  pub within : place < length inputs
  pub reports : List Report
  pub before : AreReportsIn (take place inputs) reports
  pub none : GivesNone (slice_index_or inputs place None) fault

-- the inputs are reports of the shards, and what was filtered out of all of them is below 2^64
pub record AreShards (inputs : List (Option (List ℕ))) (shards : ℕ) (equal_names : Bool) : Type 0 where
  pub reports : List Report
  pub read : AreReportsIn inputs reports
  pub fit : CanBeShards shards equal_names reports
  pub sum : filtered_out_of reports < 2 ^ 64

-- the inputs are reports that are refused
pub record AreRefused (inputs : List (Option (List ℕ))) (shards : ℕ) (equal_names : Bool) (refusal : Refusal) : Type 0 where
  pub reports : List Report
  pub read : AreReportsIn inputs reports
  pub why : IsRefused shards equal_names reports refusal

-- the text of the joined report
abbrev pub joined_text : List Report → List ℕ
joined_text reports = json_report (joined_contents reports)

-- why the inputs give no list of reports
abbrev pub CannotRead : List (Option (List ℕ)) → JoinFault → Type 0
CannotRead inputs join.OutOfMemory = ⊤
CannotRead inputs (join.Input place fault) = FailsAt inputs place fault
CannotRead inputs (join.Refused refusal) = ⊥
CannotRead inputs (join.Write fault) = ⊥

-- what a join of the inputs leaves: the text of the joined report, with a write fault a beginning of it, and else nothing
abbrev pub Leaves : List (Option (List ℕ)) → ℕ → Bool → Shown → Shown → Result Conclusion JoinFault → Type 0
Leaves inputs shards equal_names old new (Ok counts) = (read : AreShards inputs shards equal_names)
    × Put old new (joined_text read.reports) × (counts ≡ conclusion_of (joined_contents read.reports))
Leaves inputs shards equal_names old new (Err join.OutOfMemory) = new ≡ old
Leaves inputs shards equal_names old new (Err (join.Input place fault)) = FailsAt inputs place fault × (new ≡ old)
Leaves inputs shards equal_names old new (Err (join.Refused refusal)) =
    AreRefused inputs shards equal_names refusal × (new ≡ old)
Leaves inputs shards equal_names old new (Err (join.Write fault)) =
    (read : AreShards inputs shards equal_names) × Stopped old new (joined_text read.reports)
