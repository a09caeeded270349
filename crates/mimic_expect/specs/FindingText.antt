-- The lines that are printed of what is unexpected, and of trials that were running (our own).
use Rattle.std.specs.Prelude.{ℕ, Bool, List, [], ◌∷◌, ◌++◌, codes, count_by, decimal, length, map, None}
use Rattle.std.specs.List.{concat, flat_map}
use Rattle.std.specs.Option.{option_map, unwrap_or}
use Rattle.mimic_trial.specs.Count.{is_failed}
use Rattle.mimic_printer.specs.Escapes.{escaped}
use Rattle.mimic_printer.specs.Json.{Entry, json_announcement, json_outcome}
use Rattle.mimic_printer.specs.Piece.{bracketed, first_line}
use Rattle.mimic_printer.specs.Row.{Label}
use Rattle.mimic_printer.specs.declared.place.Place.TheVariants.{Line}
use Rattle.mimic_events.specs.Contents.{label_read}
use Rattle.mimic_events.specs.Key.{message_of}
use Rattle.mimic_events.specs.declared.ending.Ending.{Ending}
use Rattle.mimic_events.specs.declared.ending.Ending.TheVariants.{Cut}
use Rattle.mimic_expect.specs.Expect.{AbsentLine, FailedRow, Finding, OtherMessage, PassedLine, findings_in_turn, is_absent_line, is_failed_row, is_other_message, is_passed_line, keyed, met_by, rows_with, unknown_failures}
use Rattle.mimic_expect.specs.Known.{Expected}
use Rattle.mimic_expect.specs.declared.options.Lines.{Lines}
use Rattle.mimic_expect.specs.declared.options.Lines.TheVariants.{Json, Readable}

-- the line that a report in JSON without times has of the row's outcome: what is unexpected has nothing to do with times
abbrev pub row_line : Entry → List ℕ
row_line row = json_outcome row.label row.outcome None

-- what comes before the first line of a message: nothing if that line is empty
abbrev pub colon : List ℕ → List ℕ
colon [] = []
colon (b ∷ line) = codes ": "

-- a trial in a line for people: its kind in brackets if it has one, its name, and the first line of a message, if that is not empty
unfoldable pub trial_line : List ℕ → List ℕ → List ℕ → List ℕ
trial_line kind name message = concat (bracketed Line kind ∷ escaped Line name ∷ colon (first_line message)
    ∷ escaped Line (first_line message) ∷ codes "\n" ∷ [])

-- the message of a failure, and nothing if there is none
abbrev pub message_in : Entry → List ℕ
message_in row = unwrap_or (message_of row.outcome) []

-- a trial, of which this message is shown to people; in JSON its own one is there
abbrev pub trial_text : Lines → Entry → List ℕ → List ℕ
trial_text Json row message = row_line row
trial_text Readable row message = trial_line row.label.kind row.label.name message

-- what was found about a line of the known failures, and its number
unfoldable pub place_text : List ℕ → ℕ → List ℕ
place_text words line = concat (words ∷ decimal line ∷ codes " can go: " ∷ [])

abbrev pub finding_text : Lines → Finding → List ℕ
finding_text lines (FailedRow row) = codes "failed: " ++ trial_text lines row (message_in row)
finding_text lines (OtherMessage e row) = place_text (codes "another message, line ") e.line ++ trial_text lines row (message_in row)
finding_text lines (PassedLine e) = place_text (codes "passed, line ") e.line ++ trial_text lines e.entry []
finding_text lines (AbsentLine e) = place_text (codes "absent, line ") e.line ++ trial_text lines e.entry []

-- the lines of the failures whose kind and name no known failure has, which are printed as they come
abbrev pub unknown_text : Lines → List Expected → List Entry → List ℕ
unknown_text lines expected rows = flat_map (finding_text lines) (map FailedRow (unknown_failures expected rows))

-- the numbers: how many failures met a line, and how many findings there are of each kind
abbrev pub numbers_text : ℕ → List Finding → List ℕ
numbers_text met findings = concat (decimal met ∷ codes " known failures; "
    ∷ decimal (count_by is_failed_row findings) ∷ codes " failed; " ∷ decimal (count_by is_passed_line findings) ∷ codes " passed; "
    ∷ decimal (count_by is_other_message findings) ∷ codes " with another message; "
    ∷ decimal (count_by is_absent_line findings) ∷ codes " absent\n" ∷ [])

-- a trial that was announced; in JSON the line that announces it
abbrev pub announced_text : Lines → Label → List ℕ
announced_text Json label = json_announcement label
announced_text Readable label = trial_line label.kind label.name []

-- the line of the trial that was running when a report was cut, which is a word and the trial, and nothing of another end
abbrev pub running_text : Lines → Ending → List ℕ
running_text lines (Cut stop) =
    unwrap_or (option_map (λ label. codes "running: " ++ announced_text lines (label_read label)) stop.running) []
running_text lines other = []

-- what is printed of rows: a line of each finding, one of each trial that was running at these ends, and one of the numbers
abbrev pub rows_text : Lines → List Expected → List Entry → List Ending → Bool → List ℕ
rows_text lines expected rows ends are_all =
    flat_map (finding_text lines) (findings_in_turn expected rows are_all) ++ (flat_map (running_text lines) ends
    ++ numbers_text (length (met_by (keyed expected) (rows_with is_failed rows))) (findings_in_turn expected rows are_all))
