-- The texts of a report, part by part. If no other source is named, a text is the Rust crate's.
use Rattle.std.specs.Prelude.{ℕ, ◌+◌, ◌/◌, ◌%◌, ◌==◌, nat_lt, if◌then◌else◌, List, [], ◌∷◌, ◌++◌, length, codes, decimal, Option, None, Some}
use Rattle.std.specs.List.{concat, flat_map, list_any}
use Rattle.mimic_trial.specs.declared.formats.FormatSetting.{FormatSetting}
use Rattle.mimic_trial.specs.declared.formats.FormatSetting.TheVariants.{Pretty, Terse, Json}
use Rattle.mimic_printer.specs.declared.Printer.{Printer}
use Rattle.mimic_trial.specs.declared.outcome.Outcome.{Outcome}
use Rattle.mimic_trial.specs.declared.outcome.Outcome.TheVariants.{Passed, Failed, Ignored, Measured}
use Rattle.mimic_trial.specs.declared.outcome.Conclusion.{Conclusion}
use Rattle.mimic_trial.specs.Text.{padded, right_aligned, kind_part, grouped, nearest_hundredths, two_digits}
use Rattle.mimic_printer.specs.Json.{json_announcement, json_outcome, json_summary, json_title}
use Rattle.mimic_printer.specs.Row.{Label, PrintedRow, outcomes_of}
use Rattle.mimic_trial.specs.Count.{is_failed, counts_of}

-- ---- colours

-- the escape sequence that begins an outcome's colour: green, red, yellow, cyan
abbrev pub colour_sequence : Outcome → List ℕ
colour_sequence Passed = 27 ∷ codes "[32m"
colour_sequence (Failed f) = 27 ∷ codes "[31m"
colour_sequence Ignored = 27 ∷ codes "[33m"
colour_sequence (Measured m) = 27 ∷ codes "[36m"

-- what comes directly before an outcome's word: the sequence of its colour, if the printer colours
abbrev pub colour_start : Printer → Outcome → List ℕ
colour_start p o = if p.colour then colour_sequence o else []

-- what comes directly after it: the sequence that ends every colour
abbrev pub colour_end : Printer → List ℕ
colour_end p = if p.colour then 27 ∷ codes "[0m" else []

-- ---- title

abbrev pub noun_text : ℕ → List ℕ
noun_text n = if n == 1 then codes " test\n" else codes " tests\n"

unfoldable pub running_title : ℕ → List ℕ
running_title n = concat (codes "\nrunning " ∷ decimal n ∷ noun_text n ∷ [])

abbrev pub title_in : FormatSetting → ℕ → List ℕ
title_in Pretty n = running_title n
title_in Terse n = running_title n
title_in Json n = json_title n

abbrev pub title_text : Printer → ℕ → List ℕ
title_text p n = title_in p.format n

-- ---- announcement of a trial

unfoldable pub pretty_announcement : Printer → Label → List ℕ
pretty_announcement p l = concat
    (codes "test " ∷ padded p.kind_width (kind_part l.kind) ∷ padded p.name_width l.name ∷ codes " ... " ∷ [])

abbrev pub announcement_in : FormatSetting → Printer → Label → List ℕ
announcement_in Pretty p l = pretty_announcement p l
announcement_in Terse p l = []
announcement_in Json p l = json_announcement l

abbrev pub announcement_text : Printer → Label → List ℕ
announcement_text p l = announcement_in p.format p l

-- ---- outcome of a trial

abbrev pub outcome_word : Outcome → List ℕ
outcome_word Passed = codes "ok"
outcome_word (Failed f) = codes "FAILED"
outcome_word Ignored = codes "ignored"
outcome_word (Measured m) = codes "bench"

-- what follows the word: nothing, or what was measured, the average in eleven places
abbrev pub outcome_tail : Outcome → List ℕ
outcome_tail (Measured m) = concat (codes ": " ∷ right_aligned 11 (grouped (decimal m.avg)) ∷ codes " ns/iter (+/- "
    ∷ grouped (decimal m.variance) ∷ codes ")" ∷ [])
outcome_tail o = []

-- the number of thousandths of a second that is nearest to the nanoseconds, ties up (rustc's harness rounds so, but for its floats)
abbrev pub nearest_thousandths : ℕ → ℕ
nearest_thousandths nanos = (nanos + 500000) / 1000000

-- the time that a trial took in seconds, with three decimals, and nothing if there is none (as rustc's harness shows it)
abbrev pub time_mark : Option ℕ → List ℕ
time_mark None = []
time_mark (Some nanos) = let all = nearest_thousandths nanos in
    concat (codes " <" ∷ decimal (all / 1000) ∷ codes "." ∷ decimal (all / 100 % 10) ∷ two_digits (all % 100) ∷ codes "s>" ∷ [])

-- the word between its colour's sequences, and what was measured
unfoldable pub untimed_line : Printer → Outcome → List ℕ
untimed_line p o = concat (colour_start p o ∷ outcome_word o ∷ colour_end p ∷ outcome_tail o ∷ [])

-- these, and the time
unfoldable pub outcome_line : Printer → Outcome → Option ℕ → List ℕ
outcome_line p o time = concat
    (colour_start p o ∷ outcome_word o ∷ colour_end p ∷ outcome_tail o ∷ time_mark time ∷ codes "\n" ∷ [])

-- the one character of an outcome in terse
unfoldable pub outcome_mark : Printer → Outcome → List ℕ → List ℕ
outcome_mark p o mark = concat (colour_start p o ∷ mark ∷ colour_end p ∷ [])

-- terse has one character for each outcome but a measurement, which has its whole line, and no times
abbrev pub terse_outcome : Printer → Outcome → List ℕ
terse_outcome p Passed = outcome_mark p Passed (codes ".")
terse_outcome p (Failed f) = outcome_mark p (Failed f) (codes "F")
terse_outcome p Ignored = outcome_mark p Ignored (codes "i")
terse_outcome p (Measured m) = outcome_line p (Measured m) None

abbrev pub outcome_in : FormatSetting → Printer → Label → Outcome → Option ℕ → List ℕ
outcome_in Pretty p l o time = outcome_line p o time
outcome_in Terse p l o time = terse_outcome p o
outcome_in Json p l o time = json_outcome l o time

-- an outcome with or without the time that the trial took
abbrev pub timed_outcome_text : Printer → Label → Outcome → Option ℕ → List ℕ
timed_outcome_text p l o time = outcome_in p.format p l o time

-- an outcome without a time
abbrev pub outcome_text : Printer → Label → Outcome → List ℕ
outcome_text p l o = timed_outcome_text p l o None

-- ---- rows

abbrev pub row_text : Printer → PrintedRow → List ℕ
row_text p row = announcement_text p row.label ++ timed_outcome_text p row.label row.outcome row.nanos

abbrev pub rows_text : Printer → List PrintedRow → List ℕ
rows_text p rows = flat_map (row_text p) rows

-- ---- failures

abbrev pub message_line : Option (List ℕ) → List ℕ
message_line None = []
message_line (Some message) = message ++ codes "\n"

-- what is written of the failure of a row, and nothing if it did not fail
abbrev pub failure_text : Label → Outcome → List ℕ
failure_text l (Failed f) = concat (codes "---- " ∷ l.name ∷ codes " ----\n" ∷ message_line f ∷ codes "\n" ∷ [])
failure_text l o = []

-- the line that names a row that failed, and nothing if it did not fail
abbrev pub failed_name : Label → Outcome → List ℕ
failed_name l (Failed f) = concat (codes "    " ∷ l.name ∷ codes "\n" ∷ [])
failed_name l o = []

abbrev pub row_failure : PrintedRow → List ℕ
row_failure row = failure_text row.label row.outcome

abbrev pub row_failed_name : PrintedRow → List ℕ
row_failed_name row = failed_name row.label row.outcome

abbrev pub failures_of : List PrintedRow → List ℕ
failures_of rows = concat
    (codes "\nfailures:\n\n" ∷ flat_map row_failure rows ∷ codes "\nfailures:\n" ∷ flat_map row_failed_name rows ∷ [])

-- the messages and then the names of the rows that failed, and nothing if none did
unfoldable pub failures_if_any : List PrintedRow → List ℕ
failures_if_any rows = if list_any is_failed (outcomes_of rows) then failures_of rows else []

-- JSON has the messages in the lines of the outcomes
abbrev pub failures_in : FormatSetting → List PrintedRow → List ℕ
failures_in Pretty rows = failures_if_any rows
failures_in Terse rows = failures_if_any rows
failures_in Json rows = []

abbrev pub failures_text : Printer → List PrintedRow → List ℕ
failures_text p rows = failures_in p.format rows

-- ---- summary

-- the whole run is shown as a failure if a trial failed, else as passed
abbrev pub verdict_of : ℕ → Outcome
verdict_of failed = if nat_lt 0 failed then Failed None else Passed

unfoldable pub result_summary : Printer → Conclusion → ℕ → List ℕ
result_summary p c nanos = concat (
    codes "\ntest result: " ∷ colour_start p (verdict_of c.num_failed) ∷ outcome_word (verdict_of c.num_failed)
    ∷ colour_end p ∷ codes ". "
    ∷ decimal c.num_passed ∷ codes " passed; " ∷ decimal c.num_failed ∷ codes " failed; "
    ∷ decimal c.num_ignored ∷ codes " ignored; " ∷ decimal c.num_measured ∷ codes " measured; "
    ∷ decimal c.num_filtered_out ∷ codes " filtered out; finished in "
    ∷ decimal (nearest_hundredths nanos / 100) ∷ codes "." ∷ two_digits (nearest_hundredths nanos % 100)
    ∷ codes "s\n\n" ∷ [])

abbrev pub summary_in : FormatSetting → Printer → Conclusion → ℕ → List ℕ
summary_in Pretty p c nanos = result_summary p c nanos
summary_in Terse p c nanos = result_summary p c nanos
summary_in Json p c nanos = json_summary c nanos

abbrev pub summary_text : Printer → Conclusion → ℕ → List ℕ
summary_text p c nanos = summary_in p.format p c nanos

-- ---- the whole

-- a report of these rows, if this many other trials were filtered out and the run took this many nanoseconds
unfoldable pub report_text : Printer → List PrintedRow → ℕ → ℕ → List ℕ
report_text p rows filtered_out nanos = concat (
    title_text p (length rows) ∷ rows_text p rows ∷ failures_text p rows
    ∷ summary_text p (counts_of (outcomes_of rows) filtered_out) nanos ∷ [])
