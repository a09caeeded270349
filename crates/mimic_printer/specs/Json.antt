-- The report in JSON: one object on each line. Its lines, names and spaces are the Rust crate's, but for the field of a kind; the
-- spelling of texts and of seconds is our own, so that each report has one text.
use Rattle.std.specs.Prelude.{◌≡◌, ◌≢◌, ℕ, ◌<◌, ◌^◌, Bool, true, false, nat_lt, if◌then◌else◌, List, [], ◌∷◌, ◌++◌, length, map, codes, count_by, decimal, ◌==◌, Option, None, Some, IsUtf8}
use Rattle.std.specs.List.{AllByRecursion, concat, flat_map}
use Rattle.mimic_trial.specs.declared.outcome.Outcome.{Outcome}
use Rattle.mimic_trial.specs.declared.outcome.Outcome.TheVariants.{Passed, Failed, Ignored, Measured}
use Rattle.mimic_trial.specs.declared.outcome.Conclusion.{Conclusion}
use Rattle.mimic_trial.specs.Count.{counts_of, is_measured}
use Rattle.mimic_trial.specs.Escape.{escaped}
use Rattle.mimic_trial.specs.Promise.{FitsTypes}
use Rattle.mimic_printer.specs.Row.{Label, PrintedRow}
use Rattle.mimic_trial.specs.Seconds.{exact_seconds}

-- ---- lines of a text (our own words)

-- the bytes have no line end
abbrev pub HasNoEnd : List ℕ → Type 0
HasNoEnd bytes = AllByRecursion (λ b. b ≢ 10) bytes

-- one line: it ends with a line end, and has no other
pub record IsLine (bytes : List ℕ) : Type 0 where
  pub front : List ℕ
  pub parts : bytes ≡ front ++ 10 ∷ []
  pub whole : HasNoEnd front

-- how many lines end in the text
abbrev pub line_ends : List ℕ → ℕ
line_ends text = count_by (λ b. b == 10) text

-- ---- parts of a line

-- what ends the object and the line
abbrev pub json_end : List ℕ
json_end = codes " }\n"

-- a line, or what is left of it from a part on: its parts, and the end
abbrev pub json_line : List (List ℕ) → List ℕ
json_line parts = concat (parts ++ json_end ∷ [])

-- a key, and the number after it
abbrev pub number_field : List ℕ → ℕ → List ℕ
number_field key number = key ++ decimal number

-- what comes before a kind
abbrev pub kind_key : List ℕ
kind_key = codes ", \"kind\": \""

-- the field of a kind, and nothing for an empty one (our own: the Rust crate writes no kind)
abbrev pub kind_field : List ℕ → List ℕ
kind_field [] = []
kind_field (b ∷ bs) = concat (kind_key ∷ escaped (b ∷ bs) ∷ codes "\"" ∷ [])

-- the field that says an outcome in a word
abbrev pub event_field : List ℕ → List ℕ
event_field word = concat (codes ", \"event\": \"" ∷ word ∷ codes "\"" ∷ [])

-- what comes before a failure's message
abbrev pub stdout_key : List ℕ
stdout_key = codes ", \"stdout\": \"Error: \\\""

-- what comes before the average of a measurement
abbrev pub median_key : List ℕ
median_key = codes ", \"median\": "

-- what comes before its variance
abbrev pub deviation_key : List ℕ
deviation_key = codes ", \"deviation\": "

-- what comes before a time
abbrev pub time_key : List ℕ
time_key = codes ", \"exec_time\": "

-- the field of the time that a trial took, in seconds, and nothing if there is none
abbrev pub time_field : Option ℕ → List ℕ
time_field None = []
time_field (Some nanos) = time_key ++ exact_seconds nanos

-- ---- the lines of a trial

-- the line of a trial: its front up to the name, the name and the closing quote, the kind, and the other fields
abbrev pub json_trial : List ℕ → Label → List (List ℕ) → List ℕ
json_trial front label fields = json_line (front ∷ escaped label.name ∷ codes "\"" ∷ kind_field label.kind ∷ fields)

-- what comes before the name in an announcement
abbrev pub announcement_front : List ℕ
announcement_front = codes "{ \"type\": \"test\", \"event\": \"started\", \"name\": \""

-- what comes before the name in the line of an outcome: measurements have a type of their own
abbrev pub outcome_front : Bool → List ℕ
outcome_front false = codes "{ \"type\": \"test\", \"name\": \""
outcome_front true = codes "{ \"type\": \"bench\", \"name\": \""

-- the fields of an outcome: a word or what was measured, the time, and a failure's message
abbrev pub outcome_fields : Outcome → Option ℕ → List (List ℕ)
outcome_fields Passed time = event_field (codes "ok") ∷ time_field time ∷ []
outcome_fields (Failed None) time = event_field (codes "failed") ∷ time_field time ∷ []
outcome_fields (Failed (Some message)) time = event_field (codes "failed") ∷ time_field time ∷ stdout_key ∷ escaped message
    ∷ codes "\\\"\\n\"" ∷ []
outcome_fields Ignored time = event_field (codes "ignored") ∷ time_field time ∷ []
outcome_fields (Measured m) time = number_field median_key m.avg ∷ number_field deviation_key m.variance ∷ time_field time ∷ []

-- the line that announces a trial, by its name and its kind
unfoldable pub json_announcement : Label → List ℕ
json_announcement label = json_trial announcement_front label []

-- the line of an outcome, with the nanoseconds that the trial took or without
unfoldable pub json_outcome : Label → Outcome → Option ℕ → List ℕ
json_outcome label outcome time = json_trial (outcome_front (is_measured outcome)) label (outcome_fields outcome time)

-- ---- the lines around them

-- what comes before the number of trials
abbrev pub title_front : List ℕ
title_front = codes "{ \"type\": \"suite\", \"event\": \"started\", \"test_count\": "

-- the line that begins a report: how many trials it shows
unfoldable pub json_title : ℕ → List ℕ
json_title count = json_line (title_front ∷ decimal count ∷ [])

-- whether the whole run failed
abbrev pub json_verdict : ℕ → List ℕ
json_verdict failed = if nat_lt 0 failed then codes "failed" else codes "ok"

-- a summary's verdict and counts, up to the number of trials that were filtered out
abbrev pub summary_front : Conclusion → List (List ℕ)
summary_front c = codes "{ \"type\": \"suite\", \"event\": \"" ∷ json_verdict c.num_failed
    ∷ number_field (codes "\", \"passed\": ") c.num_passed ∷ number_field (codes ", \"failed\": ") c.num_failed
    ∷ number_field (codes ", \"ignored\": ") c.num_ignored ∷ number_field (codes ", \"measured\": ") c.num_measured
    ∷ codes ", \"filtered_out\": " ∷ []

-- the line that ends a report: its counts, and the time in seconds
unfoldable pub json_summary : Conclusion → ℕ → List ℕ
json_summary c nanos = json_line (summary_front c ++ decimal c.num_filtered_out ∷ time_key ∷ exact_seconds nanos ∷ [])

-- ---- the whole

-- what a report in JSON shows of a trial: its name, its kind, its outcome and its time, all that a row has
abbrev pub Entry : Type 0
Entry = PrintedRow

-- the two lines of an entry
abbrev pub entry_lines : Entry → List (List ℕ)
entry_lines entry = json_announcement entry.label ∷ json_outcome entry.label entry.outcome entry.nanos ∷ []

-- what a report in JSON says: its entries, how many trials were filtered out, and the nanoseconds that the run took
pub record Contents : Type 0 where
  pub entries : List Entry
  pub filtered_out : ℕ
  pub nanos : ℕ

-- the outcomes of entries
abbrev pub outcomes_in : List Entry → List Outcome
outcomes_in entries = map (λ entry. entry.outcome) entries

-- the counts that a report says
abbrev pub conclusion_of : Contents → Conclusion
conclusion_of c = counts_of (outcomes_in c.entries) c.filtered_out

-- the lines of a report: its title, those of its entries and its summary
abbrev pub report_lines : Contents → List (List ℕ)
report_lines c = json_title (length c.entries)
    ∷ (flat_map entry_lines c.entries ++ json_summary (conclusion_of c) c.nanos ∷ [])

-- the text of a report: its lines one after another, and nothing before, between or after
unfoldable pub json_report : Contents → List ℕ
json_report c = concat (report_lines c)

-- name and kind are texts
pub record FitsLabel (label : Label) : Type 0 where
  pub name : IsUtf8 label.name
  pub kind : IsUtf8 label.kind

-- the nanoseconds are below 2^64
abbrev pub FitsTime : Option ℕ → Type 0
FitsTime None = Unit {0}
FitsTime (Some nanos) = nanos < 2 ^ 64

-- name and kind are texts, the outcome fits its types, and the time its own
pub record FitsEntry (entry : Entry) : Type 0 where
  pub label : FitsLabel entry.label
  pub outcome : FitsTypes entry.outcome
  pub nanos : FitsTime entry.nanos

-- the bytes are the JSON report of these contents: names, kinds and messages are texts, and numbers are below 2^64
pub record IsJsonReport (bytes : List ℕ) (c : Contents) : Type 0 where
  pub text : bytes ≡ json_report c
  pub entries : AllByRecursion FitsEntry c.entries
  pub filtered_out : c.filtered_out < 2 ^ 64
  pub nanos : c.nanos < 2 ^ 64
