-- What a watch has seen and put.
use Rattle.std.specs.Prelude.{◌≡◌, ◌⊎◌, ℕ, ◌++◌, codes, nat_lt, if◌then◌else◌, Bool, List, [], Option, IfSome}
use Rattle.std.specs.Io.KnownBytes.{Consumes}
use Rattle.mimic_trial.specs.declared.outcome.Conclusion.{Conclusion}
use Rattle.mimic_trial.specs.Count.{counts_of}
use Rattle.mimic_printer.specs.Json.{Entry, outcomes_in}
use Rattle.mimic_printer.specs.Report.{result_summary}
use Rattle.mimic_printer.specs.Sink.{Put, Shown, Stopped}
use Rattle.mimic_printer.specs.declared.sink.OutputFault.TheVariants as output
use Rattle.mimic_events.specs.Feed.{AreEnded}
use Rattle.mimic_events.specs.declared.ending.Ending.{Ending}
use Rattle.mimic_events.specs.declared.ending.Ending.TheVariants.{Whole}
use Rattle.mimic_events.specs.Readings.{IsRead}
use Rattle.mimic_watch.specs.declared.frame.Screen.{Screen}
use Rattle.mimic_watch.specs.declared.verdict.WatchVerdict.{WatchVerdict}
use Rattle.mimic_watch.specs.declared.verdict.WatchFault.{WatchFault}
use Rattle.mimic_watch.specs.declared.verdict.WatchFault.TheVariants.{Read, Write}
use Rattle.mimic_watch.specs.Frames.{headed}
use Rattle.mimic_watch.specs.Rows.{failed_lines, printer_of}
use Rattle.mimic_watch.specs.Moments.{AreMomentsAfter, Moment, ended_in, moments_text}

-- ---- verdicts

-- 101 if a trial failed, else 0; and 1 if the report isn't whole
abbrev pub status_of : Conclusion → Ending → ℕ
status_of counts (Whole filtered_out nanos) = if nat_lt 0 counts.num_failed then 101 else 0
status_of counts ending = 1

-- how many trials were filtered out, as far as the ending says
abbrev pub filtered_out_in : Ending → ℕ
filtered_out_in (Whole filtered_out nanos) = filtered_out
filtered_out_in ending = 0

-- the counts are those of these rows and of the trials that were filtered out
abbrev pub AreCounts : List Entry → WatchVerdict → Type 0
AreCounts entries verdict = verdict.counts ≡ counts_of (outcomes_in entries) (filtered_out_in verdict.ending)

-- the harness's summary in pretty
abbrev pub summary_text : Bool → Conclusion → ℕ → List ℕ
summary_text colours counts nanos = result_summary (printer_of colours) counts nanos

-- the lines that name failures, under a heading if there are some
abbrev pub failures_part : List ℕ → List ℕ
failures_part lines = headed (codes "\nfailures:\n") lines

abbrev pub failures_text : List Entry → List ℕ
failures_text entries = failures_part (failed_lines entries)

-- what is put at last: of a whole report this text, which names the failures, and the summary
abbrev pub last_text : Bool → List ℕ → Conclusion → Ending → List ℕ
last_text colours failures counts (Whole filtered_out nanos) = failures ++ summary_text colours counts nanos
last_text colours failures counts ending = []

-- ---- watches

-- the input was a report or none, as the ending says; what was put shows each of its rows that have ended once, in their order, and
-- then the names of those that failed and the summary
pub record HasWatched (screen : Screen) (start : Option (List ℕ)) (old new : Shown) (verdict : WatchVerdict) : Type 0 where
  pub moments : List Moment
  pub each : AreMomentsAfter start screen [] moments
  pub ending : IfSome start (IsRead (ended_in moments) verdict.ending)
  pub counts : AreCounts (ended_in moments) verdict
  pub put : Put old new (moments_text screen.colours moments ++ last_text screen.colours (failures_text (ended_in moments)) verdict.counts verdict.ending)

-- with a fault of the writer a beginning of the text was put, and else all of it
abbrev pub IsLeft : WatchFault → Shown → Shown → List ℕ → List ℕ → Type 0
IsLeft (Read fault) old new text last = Put old new text
IsLeft (Write output.OutOfMemory) old new text last = Put old new text
IsLeft (Write (output.Write error)) old new text last = Stopped old new (text ++ last)

-- nothing, or the names of failures and the summary of the report that the input is, which has these rows
abbrev pub IsLast : Bool → Option (List ℕ) → List Entry → List ℕ → Type 0
IsLast colours start entries last = (last ≡ []) ⊎ ((verdict : WatchVerdict) × IfSome start (IsRead entries verdict.ending)
    × AreCounts entries verdict × (last ≡ last_text colours (failures_text entries) verdict.counts verdict.ending))

-- some bytes were read; what was put shows rows that have ended in a front of them, from the first one on, each once
pub record HasFailed (screen : Screen) (start end : Option (List ℕ)) (old new : Shown) (fault : WatchFault) : Type 0 where
  pub bytes : List ℕ
  pub rest : List ℕ
  pub gone : Consumes start end (bytes ++ rest)
  pub moments : List Moment
  pub waiting : List Entry
  pub each : AreMomentsAfter start screen [] moments
  pub ended : AreEnded bytes (ended_in moments ++ waiting)
  pub last : List ℕ
  pub is_last : IsLast screen.colours start (ended_in moments) last
  pub left : IsLeft fault old new (moments_text screen.colours moments) last
