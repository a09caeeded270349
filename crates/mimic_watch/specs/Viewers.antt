-- What a viewer knows while it watches. No public clause names these words.
use Rattle.std.specs.Prelude.{◌≡◌, ℕ, ◌+◌, ◌-◌, ◌<◌, ◌^◌, Bool, true, if◌then◌else◌, List, [], ◌++◌, length, Option}
use Rattle.std.specs.Io.KnownBytes.{Consumes}
use Rattle.std.specs.List.{flat_map}
use Rattle.mimic_trial.specs.Count.{CanCount, counted, counts_of}
use Rattle.mimic_printer.specs.Json.{Entry, outcomes_in}
use Rattle.mimic_printer.specs.Sink.{HasFaultLeft}
use Rattle.mimic_printer.specs.declared.sink.Sink.{Sink}
use Rattle.mimic_events.specs.Follower.{HasFollowed}
use Rattle.mimic_events.specs.Readings.{EndsAs, IsOver}
use Rattle.mimic_watch.specs.declared.frame.Screen.{Screen}
use Rattle.mimic_watch.specs.declared.verdict.WatchVerdict.{WatchVerdict}
use Rattle.mimic_watch.specs.declared.viewer.Viewer.{Viewer}
use Rattle.mimic_watch.specs.Frames.{erase}
use Rattle.mimic_watch.specs.Moments.{AreMomentsAfter, IsDrawn, Moment, ended_in, moments_text}
use Rattle.mimic_watch.specs.Rows.{failed_line, failed_lines, row_text}
use Rattle.mimic_watch.specs.Watched.{AreCounts}

-- ---- what has come

-- these rows were put, and these wait; together they have ended in the bytes that came
pub record HasSeen (w : Viewer) (bytes : List ℕ) (put waiting : List Entry) : Type 0 where
  pub followed : HasFollowed w.follower bytes (put ++ waiting)
  pub ended : w.ended ≡ length (put ++ waiting)
  pub counts : w.counts ≡ counts_of (outcomes_in (put ++ waiting)) 0
  pub shown : w.waiting.items ≡ flat_map (row_text w.screen.colours) waiting
  pub failed : w.failed.items ≡ failed_lines (put ++ waiting)

-- the viewer has seen nothing, and the sink can count one more fault
abbrev pub IsReady : {W : Type 0} → Viewer → Sink W → Type 0
IsReady viewer sink = HasSeen viewer [] [] [] × HasFaultLeft sink

-- whatever had come, these bytes follow it, and the rows that they end wait with the others
abbrev pub SeesOn : Viewer → List ℕ → Viewer → Type 0
SeesOn old bytes new = (before : List ℕ) (put waiting : List Entry) → HasSeen old before put waiting
    → (more : List Entry) × HasSeen new (before ++ bytes) put (waiting ++ more)

-- a row that has ended is counted, and waits
pub record SeesRow (old : Viewer) (entry : Entry) (new : Viewer) : Type 0 where
  pub follower : new.follower ≡ old.follower
  pub screen : new.screen ≡ old.screen
  pub ended : old.ended < 2 ^ 64 - 1 → new.ended ≡ old.ended + 1
  pub counts : CanCount old.counts entry.outcome → new.counts ≡ counted old.counts entry.outcome
  pub shown : new.waiting.items ≡ old.waiting.items ++ row_text old.screen.colours entry
  pub failed : new.failed.items ≡ old.failed.items ++ failed_line entry.label entry.outcome

-- a piece was read, and the rows that it ends wait with the others; it is the last one if the input is over
pub record ReadsOn (before after : Option (List ℕ)) (old new : Viewer) (over : Bool) : Type 0 where
  pub bytes : List ℕ
  pub gone : Consumes before after bytes
  pub seen : SeesOn old bytes new
  pub screen : new.screen ≡ old.screen
  pub last : over ≡ true → (all : List ℕ) (put waiting : List Entry) → HasSeen new all put waiting → IsOver after all

-- what is seen stays so, but for the time
abbrev pub StaysSeen : Viewer → Viewer → Type 0
StaysSeen old new = (bytes : List ℕ) (put waiting : List Entry) → HasSeen old bytes put waiting → HasSeen new bytes put waiting

-- what is drawn is nothing, or of the rows that have ended
abbrev pub DrawsSeen : Viewer → List ℕ → Type 0
DrawsSeen w drawn = (start now : Option (List ℕ)) (bytes : List ℕ) (put waiting : List Entry) → Consumes start now bytes → HasSeen w bytes put waiting
    → IsDrawn start w.screen (put ++ waiting) drawn

-- what has come is over, and is what the verdict says
abbrev pub EndsSeen : Viewer → WatchVerdict → Type 0
EndsSeen w verdict = (bytes : List ℕ) (put waiting : List Entry) → HasSeen w bytes put waiting
    → EndsAs bytes (put ++ waiting) verdict.ending × AreCounts (put ++ waiting) verdict

-- ---- what is put

-- the text of a moment: what was drawn may be erased, and what waited and what is drawn follow
abbrev pub put_text : Bool → List ℕ → List ℕ → List ℕ
put_text erases waiting drawn = (if erases then erase else []) ++ (waiting ++ drawn)

-- the rows that waited were put
abbrev pub PutsSeen : Viewer → Viewer → Type 0
PutsSeen old new = (bytes : List ℕ) (put waiting : List Entry) → HasSeen old bytes put waiting → HasSeen new bytes (put ++ waiting) []

-- ---- the whole

-- since the input was at its start, these rows have come, and this text shows some of them
pub record IsWatching (screen : Screen) (start now : Option (List ℕ)) (text : List ℕ) (w : Viewer) : Type 0 where
  pub bytes : List ℕ
  pub moments : List Moment
  pub waiting : List Entry
  pub each : AreMomentsAfter start screen [] moments
  pub seen : HasSeen w bytes (ended_in moments) waiting
  pub screen_is : w.screen ≡ screen
  pub gone : Consumes start now bytes
  pub shows : text ≡ moments_text screen.colours moments

-- whatever was put so far, this text shows more rows, or nothing
abbrev pub ShowsOn : Viewer → Viewer → List ℕ → Type 0
ShowsOn old new text = (screen : Screen) (start now : Option (List ℕ)) (before : List ℕ) → IsWatching screen start now before old
    → IsWatching screen start now (before ++ text) new
