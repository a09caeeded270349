-- What was read of a report that may have no end.
use Rattle.std.specs.Prelude.{◌≡◌, ◌==◌, ◌⊎◌, ℕ, Bool, true, false, List, [], ◌++◌, Option, None, IfSome, option_map}
use Rattle.std.specs.Io.KnownBytes.{Consumes, IsAtEnd}
use Rattle.mimic_printer.specs.Json.{Contents, Entry}
use Rattle.mimic_events.specs.Contents.{Spells, label_read}
use Rattle.mimic_events.specs.Feed.{AreEnded}
use Rattle.mimic_events.specs.Reading.{Decodes}
use Rattle.mimic_events.specs.SoFar.{BeginsWithTitle, IsFirstWrong, ShowsRunning}
use Rattle.mimic_events.specs.declared.ending.Ending.{Ending}
use Rattle.mimic_events.specs.declared.ending.Ending.TheVariants.{Whole, Cut, Failed}
use Rattle.mimic_events.specs.declared.ending.Stop.{Stop}

-- the bytes are the report of these rows, of whose run `filtered_out` trials were filtered out, with this time
abbrev pub IsWhole : List ℕ → List Entry → ℕ → ℕ → Type 0
IsWhole bytes entries filtered_out nanos = Spells (record { entries = entries; filtered_out = filtered_out; nanos = nanos }) bytes

-- a front of the bytes, all of them unless it has a wrong line, is no report: these rows have ended in it, and what is known of
-- the stop is what the front says
pub record IsStopped (bytes : List ℕ) (entries : List Entry) (stop : Stop) : Type 0 where
  pub front : List ℕ
  pub rest : List ℕ
  pub parts : bytes ≡ front ++ rest
  pub all : stop.wrong_line ≡ None → rest ≡ []
  pub none : (contents : Contents) → ¬ Spells contents front
  pub ended : AreEnded front entries
  pub announced : Decodes BeginsWithTitle front stop.announced
  pub running : Decodes ShowsRunning front (option_map label_read stop.running)
  pub wrong : Decodes IsFirstWrong front stop.wrong_line

-- these rows have ended in a front of the bytes
pub record HasEndedRows (entries : List Entry) (bytes : List ℕ) : Type 0 where
  pub front : List ℕ
  pub rest : List ℕ
  pub parts : bytes ≡ front ++ rest
  pub ended : AreEnded front entries

-- the bytes were read, with no error of the reader: these rows have ended in them, and this is how the report ends
abbrev pub IsRead : List Entry → Ending → List ℕ → Type 0
IsRead entries (Whole filtered_out nanos) bytes = IsWhole bytes entries filtered_out nanos
IsRead entries (Cut stop) bytes = IsStopped bytes entries stop
IsRead entries (Failed error) bytes = ⊥

-- the same, but with an error of the reader these rows have ended in a front of the bytes
abbrev pub IsReading : List Entry → Ending → List ℕ → Type 0
IsReading entries (Whole filtered_out nanos) bytes = IsWhole bytes entries filtered_out nanos
IsReading entries (Cut stop) bytes = IsStopped bytes entries stop
IsReading entries (Failed error) bytes = HasEndedRows entries bytes

-- what was read of an input: the rows that have ended, and how the report ended
pub record InputRead : Type 0 where
  pub entries : List Entry
  pub ending : Ending

-- the input, if its bytes are known, was read so
abbrev pub IsReadOf : Option (List ℕ) → InputRead → Type 0
IsReadOf input read = IfSome input (IsReading read.entries read.ending)

-- the report has its summary
abbrev pub is_whole : Ending → Bool
is_whole (Whole filtered_out nanos) = true
is_whole (Cut stop) = false
is_whole (Failed error) = false

-- it has, and no trial was filtered out
abbrev pub has_all : Ending → Bool
has_all (Whole filtered_out nanos) = filtered_out == 0
has_all (Cut stop) = false
has_all (Failed error) = false

-- the input is at its end, or a line that was read is wrong
abbrev pub IsOver : Option (List ℕ) → List ℕ → Type 0
IsOver now bytes = IsAtEnd now ⊎ ((number : ℕ) × IsFirstWrong number bytes)

-- an input of which these bytes were read until it was over has these rows, and ends so
abbrev pub EndsAs : List ℕ → List Entry → Ending → Type 0
EndsAs bytes entries ending = (start now : Option (List ℕ)) → Consumes start now bytes → IsOver now bytes
    → IfSome start (IsRead entries ending)
