-- What each line of a report in JSON is to another reader of JSON: the crate `serde_json`.
use Rattle.std.specs.Prelude.{◌≡◌, ℕ, ◌<◌, ◌^◌, ◌==◌, Bool, true, false, if◌then◌else◌, List, [], ◌∷◌, ◌++◌, length, codes, Option, None, Some, ⊤}
use Rattle.std.specs.List.{flat_map}
use Rattle.mimic_trial.specs.declared.outcome.Outcome.{Outcome}
use Rattle.mimic_trial.specs.declared.outcome.Outcome.TheVariants.{Passed, Failed, Ignored, Measured}
use Rattle.mimic_trial.specs.declared.outcome.Conclusion.{Conclusion}
use Rattle.mimic_trial.specs.Count.{is_measured}
use Rattle.mimic_trial.specs.Promise.{FitsTypes}
use Rattle.mimic_printer.specs.Row.{Label}
use Rattle.mimic_printer.specs.Json.{Contents, Entry, FitsTime, IsJsonReport, conclusion_of, json_announcement, json_outcome, json_summary, json_title, json_verdict}
use Rattle.json.specs.Json as json
use Rattle.json.specs.Json.{document}
use Rattle.serde_json.specs.Read.{read}
use Rattle.serde_json.specs.Find.{to_float}
use Rattle.std.specs.Float.{binary64}
use Rattle.std.specs.Float.Ieee.{round}
use Rattle.mimic_json.specs.Fields.{Field, text, count, seconds, HasExactly, HaveOwnKeys, json_members, object_of, seconds_number}

-- the line, without its line end, is read as the object of these fields: each has a key of its own, and there is no other (our own)
pub record IsReadAs (line : List ℕ) (fields : List Field) : Type 0 where
  pub front : List ℕ
  pub parts : line ≡ front ++ 10 ∷ []
  pub value : read front ≡ Some (object_of fields)
  -- the text has the members in this order, and each number as it is spelled
  pub spelled : document front ≡ Some (json.object (json_members fields))
  pub keys : HaveOwnKeys fields
  pub members : HasExactly (object_of fields) fields

-- the kind, if it is not empty
abbrev pub kind_fields : List ℕ → List Field
kind_fields [] = []
kind_fields (b ∷ bs) = (codes "kind", text (b ∷ bs)) ∷ []

-- the time that a trial took, if there is one
abbrev pub time_fields : Option ℕ → List Field
time_fields None = []
time_fields (Some nanos) = (codes "exec_time", seconds nanos) ∷ []

-- an outcome: a word or what was measured, the time, and a failure's message
abbrev pub event_fields : Outcome → Option ℕ → List Field
event_fields Passed time = (codes "event", text (codes "ok")) ∷ time_fields time
event_fields (Failed None) time = (codes "event", text (codes "failed")) ∷ time_fields time
event_fields (Failed (Some message)) time = (codes "event", text (codes "failed"))
    ∷ (time_fields time ++ (codes "stdout", text (codes "Error: \"" ++ (message ++ codes "\"\n"))) ∷ [])
event_fields Ignored time = (codes "event", text (codes "ignored")) ∷ time_fields time
event_fields (Measured m) time = (codes "median", count m.avg) ∷ (codes "deviation", count m.variance) ∷ time_fields time

-- the type of a line: measurements have one of their own
abbrev pub type_of : Bool → List ℕ
type_of false = codes "test"
type_of true = codes "bench"

-- the line that announces a trial
abbrev pub announcement_fields : Label → List Field
announcement_fields label =
    (codes "type", text (codes "test")) ∷ (codes "event", text (codes "started")) ∷ (codes "name", text label.name)
    ∷ kind_fields label.kind

-- the line of an outcome, with the nanoseconds that the trial took or without
abbrev pub outcome_fields : Label → Outcome → Option ℕ → List Field
outcome_fields label outcome time =
    (codes "type", text (type_of (is_measured outcome))) ∷ (codes "name", text label.name)
    ∷ (kind_fields label.kind ++ event_fields outcome time)

-- the line that begins a report of this number of trials
abbrev pub title_fields : ℕ → List Field
title_fields n = (codes "type", text (codes "suite")) ∷ (codes "event", text (codes "started"))
    ∷ (codes "test_count", count n) ∷ []

-- the line that ends a report
abbrev pub summary_fields : Conclusion → ℕ → List Field
summary_fields c nanos =
    (codes "type", text (codes "suite")) ∷ (codes "event", text (json_verdict c.num_failed))
    ∷ (codes "passed", count c.num_passed) ∷ (codes "failed", count c.num_failed)
    ∷ (codes "ignored", count c.num_ignored) ∷ (codes "measured", count c.num_measured)
    ∷ (codes "filtered_out", count c.num_filtered_out) ∷ (codes "exec_time", seconds nanos) ∷ []

-- each count is below 2^64
pub record FitsCounts (c : Conclusion) : Type 0 where
  pub filtered_out : c.num_filtered_out < 2 ^ 64
  pub passed : c.num_passed < 2 ^ 64
  pub failed : c.num_failed < 2 ^ 64
  pub ignored : c.num_ignored < 2 ^ 64
  pub measured : c.num_measured < 2 ^ 64

-- the two lines of an entry
abbrev pub entry_fields : Entry → List (List Field)
entry_fields entry = announcement_fields entry.label ∷ outcome_fields entry.label entry.outcome entry.nanos ∷ []

-- all lines of a report, in their order
abbrev pub report_fields : Contents → List (List Field)
report_fields c = title_fields (length c.entries)
    ∷ (flat_map entry_fields c.entries ++ summary_fields (conclusion_of c) c.nanos ∷ [])

-- the first of the pieces with this byte before it
abbrev pub before_first : ℕ → List (List ℕ) → List (List ℕ)
before_first b [] = (b ∷ []) ∷ []
before_first b (piece ∷ pieces) = (b ∷ piece) ∷ pieces

-- the text cut after each line end
abbrev pub lines_of : List ℕ → List (List ℕ)
lines_of [] = []
lines_of (b ∷ bytes) = if b == 10 then (b ∷ []) ∷ lines_of bytes else before_first b (lines_of bytes)

-- there are as many lines as objects, and each line is read as its object
abbrev pub AreReadAs : List (List ℕ) → List (List Field) → Type 0
AreReadAs [] [] = ⊤
AreReadAs [] (f ∷ fs) = ⊥
AreReadAs (l ∷ ls) [] = ⊥
AreReadAs (l ∷ ls) (f ∷ fs) = IsReadAs l f × AreReadAs ls fs

-- the law: each line of a report in JSON is an object in another reader's definition of JSON, with these members and no other, and a
-- whole report, cut after each line end, is these objects in order. Numbers below 2^64 are all that is asked
pub record LinesAreObjects : Type 0 where
  -- a time is, as a float, the one nearest to its seconds
  pub time : (nanos : ℕ) → to_float (seconds_number nanos) ≡ round binary64 false nanos (10 ^ 9)
  pub title : (n : ℕ) → n < 2 ^ 64 → IsReadAs (json_title n) (title_fields n)
  pub announcement : (label : Label) → IsReadAs (json_announcement label) (announcement_fields label)
  pub outcome : (label : Label) (o : Outcome) (time : Option ℕ) → FitsTypes o → FitsTime time
      → IsReadAs (json_outcome label o time) (outcome_fields label o time)
  pub summary : (c : Conclusion) (nanos : ℕ) → FitsCounts c → nanos < 2 ^ 64
      → IsReadAs (json_summary c nanos) (summary_fields c nanos)
  pub report : (bytes : List ℕ) (c : Contents) → IsJsonReport bytes c → length c.entries < 2 ^ 64
      → AreReadAs (lines_of bytes) (report_fields c)
