-- What a call leaves that writes what of reports is unexpected (our own).
use Rattle.std.specs.Prelude.{◌≡◌, ◌⊎◌, ℕ, Bool, if◌then◌else◌, List, [], ◌∷◌, ◌++◌, map, Option, IfSome, Result, Ok, Err}
use Rattle.std.specs.List.{AllZip, flat_map, list_all, list_any}
use Rattle.mimic_printer.specs.Json.{Entry}
use Rattle.mimic_printer.specs.Sink.{Put, Shown, Stopped}
use Rattle.mimic_events.specs.Readings.{HasEndedRows, InputRead, IsReadOf, has_all, is_whole}
use Rattle.mimic_events.specs.declared.ending.Ending.{Ending}
use Rattle.mimic_expect.specs.Expect.{counts, findings}
use Rattle.mimic_expect.specs.FindingText.{rows_text, unknown_text}
use Rattle.mimic_expect.specs.Known.{Expected}
use Rattle.mimic_expect.specs.KnownText.{StoppedBy}
use Rattle.mimic_printer.specs.declared.sink.OutputFault.{OutputFault}
use Rattle.mimic_printer.specs.declared.sink.OutputFault.TheVariants.{OutOfMemory, Write}
use Rattle.mimic_expect.specs.declared.options.ExpectOptions.{ExpectOptions}
use Rattle.mimic_expect.specs.declared.verdict.ExpectationVerdict.{ExpectationVerdict}

-- ---- inputs

-- the rows of all inputs, in their order
abbrev pub rows_of : List InputRead → List Entry
rows_of inputs = flat_map (λ read. read.entries) inputs

-- how all inputs ended, in their order
abbrev pub ends_of : List InputRead → List Ending
ends_of inputs = map (λ read. read.ending) inputs

-- each input is a whole report out of which no trial was filtered: all trials have rows
abbrev pub have_all : List InputRead → Bool
have_all inputs = list_all (λ read. has_all read.ending) inputs

-- ---- the verdict

-- what is unexpected of the rows of all inputs was written, each once, the trials that were running, and the numbers; the verdict says
-- whether anything unexpected counts
pub record IsVerdict {I : Type 0} (remaining : I → Option (List ℕ)) (expected : List Expected) (inputs : List I) (options : ExpectOptions)
    (old new : Shown) (verdict : ExpectationVerdict) : Type 0 where
  pub read : List InputRead
  pub each : AllZip (λ input r. IsReadOf (remaining input) r) inputs read
  pub ends : verdict.ends.items ≡ ends_of read
  pub put : Put old new (rows_text options.lines expected (rows_of read) (ends_of read) (have_all read))
  pub unexpected : verdict.is_unexpected ≡ list_any (counts options.lax) (findings expected (rows_of read) (have_all read))

-- ---- what is left with a fault

-- rows that have ended in the next input, and none behind the last one
abbrev pub AreNext : {I : Type 0} → (I → Option (List ℕ)) → List I → List Entry → Type 0
AreNext remaining [] rows = rows ≡ []
AreNext remaining (input ∷ inputs) rows = IfSome (remaining input) (HasEndedRows rows)

-- these rows were read: of each of some first inputs those that go with its end, and then rows of the next one
pub record AreBegun {I : Type 0} (remaining : I → Option (List ℕ)) (inputs : List I) (rows : List Entry) : Type 0 where
  pub before : List I
  pub after : List I
  pub parts : inputs ≡ before ++ after
  pub read : List InputRead
  pub each : AllZip (λ input r. IsReadOf (remaining input) r) before read
  pub last : List Entry
  pub next : AreNext remaining after last
  pub all : rows ≡ rows_of read ++ last

-- a fault of the writer stopped a call that writes the text
abbrev pub IsCut : OutputFault → Shown → Shown → List ℕ → Type 0
IsCut OutOfMemory old new text = ⊥
IsCut (Write fault) old new text = Stopped old new text

-- what a call leaves that judges the inputs: without memory the failures were appended whose kind and name no known failure has,
-- among rows that were read; and with a fault of the writer a beginning of such failures, or of what is written of all inputs
abbrev pub LeavesVerdict : {I : Type 0} → (I → Option (List ℕ)) → List Expected → List I → ExpectOptions → Shown → Shown
    → Result ExpectationVerdict OutputFault → Type 0
LeavesVerdict remaining expected inputs options old new (Ok verdict) =
    IsVerdict remaining expected inputs options old new verdict
LeavesVerdict remaining expected inputs options old new (Err fault) =
    ((rows : List Entry) × AreBegun remaining inputs rows × StoppedBy fault old new (unknown_text options.lines expected rows))
    ⊎ ((read : List InputRead) × AllZip (λ input r. IsReadOf (remaining input) r) inputs read
    × IsCut fault old new (rows_text options.lines expected (rows_of read) (ends_of read) (have_all read)))

-- the exit status: 1 if some input is no whole report, else 101 if anything is unexpected that counts, else 0
abbrev pub status_of : ExpectationVerdict → ℕ
status_of verdict = if list_all is_whole verdict.ends.items then (if verdict.is_unexpected then 101 else 0) else 1
