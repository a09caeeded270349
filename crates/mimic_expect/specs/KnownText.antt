-- The failures of a report that are written as known ones (our own).
use Rattle.std.specs.Prelude.{◌≡◌, ℕ, List, map, Option, None, IfSome, MatchResult, Result}
use Rattle.std.specs.List.{AllByRecursion, flat_map}
use Rattle.mimic_trial.specs.Count.{is_failed}
use Rattle.mimic_printer.specs.Json.{Entry, FitsEntry}
use Rattle.mimic_printer.specs.Sink.{HasFaultLeft, Put, Shown, Stopped}
use Rattle.mimic_printer.specs.declared.sink.Sink.{Sink}
use Rattle.mimic_printer.specs.declared.sink.OutputFault.{OutputFault}
use Rattle.mimic_printer.specs.declared.sink.OutputFault.TheVariants.{OutOfMemory, Write}
use Rattle.mimic_events.specs.Readings.{HasEndedRows, IsReading}
use Rattle.mimic_events.specs.declared.ending.Ending.{Ending}
use Rattle.mimic_expect.specs.Expect.{rows_with}
use Rattle.mimic_expect.specs.FindingText.{row_line}
use Rattle.mimic_expect.specs.Known.{AreExpected, Expected}
use denote.Ref.{MutBor}

-- the lines of the failures among the rows, in their order
abbrev pub known_text : List Entry → List ℕ
known_text rows = flat_map row_line (rows_with is_failed rows)

-- the row without a time
abbrev pub untimed : Entry → Entry
untimed row = record { label = row.label; outcome = row.outcome; nanos = None }

-- the law of known failures: the lines of rows that fit say of each failure among them, in their order and without its time, that it
-- is known, and nothing else
abbrev pub SayFailures : Type 0
SayFailures = (rows : List Entry) → AllByRecursion FitsEntry rows → (expected : List Expected)
    × AreExpected expected (known_text rows) × (map (λ x. x.entry) expected ≡ map untimed (rows_with is_failed rows))

-- it is the same sink, and it can count one more fault
abbrev pub StaysSink : {W : Type 0} → MutBor (Sink W) → MutBor (Sink W) → Type 0
StaysSink old new = (new.ghost_name ≡ old.ghost_name) × HasFaultLeft new.now

-- what a fault leaves that stopped a call at the end of a text: without memory all of it was appended, and with a fault of the writer
-- a beginning
abbrev pub StoppedBy : OutputFault → Shown → Shown → List ℕ → Type 0
StoppedBy OutOfMemory old new text = Put old new text
StoppedBy (Write fault) old new text = Stopped old new text

-- what a call leaves that writes the failures of an input: those of all rows that have ended in it, or of rows that have ended in a
-- front of it if its reader failed; without memory those of such rows, too, and with a fault of the writer a beginning of these
abbrev pub LeavesKnown : Option (List ℕ) → Shown → Shown → Result Ending OutputFault → Type 0
LeavesKnown input old new result = MatchResult result
    (λ ending. (rows : List Entry) × IfSome input (IsReading rows ending) × Put old new (known_text rows))
    (λ fault. (rows : List Entry) × IfSome input (HasEndedRows rows) × StoppedBy fault old new (known_text rows))
