-- The new text of a file of known failures that is brought up to date (our own).
use Rattle.std.specs.Prelude.{◌≡◌, ℕ, ◌+◌, ◌==◌, Bool, false, cond, List, [], ◌∷◌, ◌++◌, filter, map, Option, None, Some, Result, Ok, Err}
use Rattle.std.specs.List.{AllByRecursion, AllZip, IsDistinct, flat_map, list_all}
use Rattle.std.specs.Option.{option_or, option_to_list}
use Rattle.mimic_trial.specs.Count.{is_failed}
use Rattle.mimic_printer.specs.Json.{Entry, FitsEntry}
use Rattle.mimic_printer.specs.Sink.{Put, Shown, Stopped}
use Rattle.mimic_printer.specs.declared.sink.OutputFault.{OutputFault}
use Rattle.mimic_printer.specs.declared.sink.OutputFault.TheVariants.{OutOfMemory, Write}
use Rattle.mimic_events.specs.Readings.{InputRead, IsReadOf, is_whole}
use Rattle.mimic_expect.specs.Expect.{AbsentLine, FailedRow, Finding, OtherMessage, PassedLine, counts, findings, keyed, met_by, rows_with}
use Rattle.mimic_expect.specs.FindingText.{row_line}
use Rattle.mimic_expect.specs.Known.{AreExpected, Expected, lines_of, says_nothing}
use Rattle.mimic_expect.specs.KnownText.{untimed}
use Rattle.mimic_expect.specs.Verdict.{ends_of, have_all, rows_of}
use Rattle.mimic_expect.specs.declared.updated.UpdateVerdict.{UpdateVerdict}

-- ---- the new text

-- the number of the line that the finding is about
abbrev pub line_of : Finding → Option ℕ
line_of (FailedRow row) = None
line_of (OtherMessage e row) = Some e.line
line_of (PassedLine e) = Some e.line
line_of (AbsentLine e) = Some e.line

-- the number is there, and is this one
abbrev pub is_number : ℕ → Option ℕ → Bool
is_number number None = false
is_number number (Some line) = line == number

-- the finding about the line of this number, if there is one: no two are about one line
abbrev pub found_at : List Finding → ℕ → Option Finding
found_at [] number = None
found_at (f ∷ found) number = option_or (found_at found number) (cond (is_number number (line_of f)) (Some f) None)

-- what replaces a line that a finding is about: the line of the failure that has another message, and nothing if the
-- trial passed or is absent
abbrev pub replaced_by : Finding → List ℕ
replaced_by (OtherMessage e row) = row_line row
replaced_by other = []

-- what becomes of the line of a known failure: with no finding about it, it is kept
abbrev pub known_line : List ℕ → Option Finding → List ℕ
known_line line None = line ++ 10 ∷ []
known_line line (Some found) = replaced_by found

-- what becomes of a line: an empty one and a comment are kept
abbrev pub kept_line : List ℕ → Option Finding → List ℕ
kept_line line found = cond (says_nothing line) (line ++ 10 ∷ []) (known_line line found)

-- what becomes of the lines, whose first one has this number, by what was found about the line of each number. Each line is given its
-- end; an empty one behind the last end is none
abbrev pub kept_lines : (ℕ → Option Finding) → ℕ → List (List ℕ) → List ℕ
kept_lines found number [] = []
kept_lines found number ([] ∷ []) = []
kept_lines found number (line ∷ lines) = kept_line line (found number) ++ kept_lines found (number + 1) lines

-- the line of a failure that is not known
abbrev pub added_line : Finding → List ℕ
added_line (FailedRow row) = row_line row
added_line other = []

-- the new text of a file: its lines, and then the failures that are not known
abbrev pub updated_text : List ℕ → List Finding → List ℕ
updated_text text found = kept_lines (found_at found) 1 (lines_of text) ++ flat_map added_line found

-- ---- what a call leaves

-- the findings that change the file: those that count
abbrev pub changes : List Expected → List InputRead → Bool → List Finding
changes expected read lax = filter (counts lax) (findings expected (rows_of read) (have_all read))

-- what is written of inputs: the new text if each is a whole report, and nothing if one is not
abbrev pub update_text : List ℕ → List Expected → List InputRead → Bool → List ℕ
update_text text expected read lax = cond (list_all is_whole (ends_of read)) (updated_text text (changes expected read lax)) []

-- each input was read so, and of what was read this was written
pub record IsUpdate {I : Type 0} (remaining : I → Option (List ℕ)) (inputs : List I) (Written : List InputRead → Type 0) : Type 0 where
  pub read : List InputRead
  pub each : AllZip (λ input r. IsReadOf (remaining input) r) inputs read
  pub written : Written read

-- what a call leaves that brings the text of a file up to date: with a fault of the writer a beginning of what it writes, and without
-- memory nothing
abbrev pub LeavesUpdate : {I : Type 0} → (I → Option (List ℕ)) → List I → (List InputRead → List ℕ) → Shown → Shown
    → Result UpdateVerdict OutputFault → Type 0
LeavesUpdate remaining inputs text old new (Ok verdict) =
    IsUpdate remaining inputs (λ read. (verdict.ends.items ≡ ends_of read) × Put old new (text read))
LeavesUpdate remaining inputs text old new (Err OutOfMemory) = new ≡ old
LeavesUpdate remaining inputs text old new (Err (Write fault)) = IsUpdate remaining inputs (λ read. Stopped old new (text read))

-- ---- what the new text says

-- what it says of a known failure
abbrev pub said_after : Expected → Option Finding → List Entry
said_after e None = e.entry ∷ []
said_after e (Some (OtherMessage other row)) = untimed row ∷ []
said_after e (Some found) = []

-- the failures that are not known
abbrev pub added_rows : Finding → List Entry
added_rows (FailedRow row) = untimed row ∷ []
added_rows other = []

-- the text says of each known failure that no finding is about that it is known, in the place of one that has another message now the
-- new one, all in their order, and then the failures that were not known; and nothing else
pub record IsSaid (text : List ℕ) (expected : List Expected) (found : List Finding) : Type 0 where
  pub known : List Expected
  pub says : AreExpected known text
  pub entries : map (λ e. e.entry) known ≡ flat_map (λ e. said_after e (found_at found e.line)) expected ++ flat_map added_rows found

-- the number of the line that a finding is about, if it is about one
abbrev pub about : Finding → List ℕ
about found = option_to_list (line_of found)

-- the laws of new texts, with `lax` or without
pub record UpdateLaws : Type 0 where
  -- if the old text says these known failures, no two findings are about one line, and none about that of a known failure that is met
  pub apart : (text : List ℕ) (expected : List Expected) (rows : List Entry) (are_all lax : Bool) → AreExpected expected text
      → IsDistinct (λ a b. a == b) (map (λ m. m.0.line) (met_by (keyed expected) (rows_with is_failed rows))
      ++ flat_map about (filter (counts lax) (findings expected rows are_all)))
  -- if the rows fit, too, the new text says what the old one said, but for what was found
  pub said : (text : List ℕ) (expected : List Expected) (rows : List Entry) (are_all lax : Bool)
      → AreExpected expected text → AllByRecursion FitsEntry rows
      → IsSaid (updated_text text (filter (counts lax) (findings expected rows are_all))) expected (filter (counts lax) (findings expected rows are_all))
