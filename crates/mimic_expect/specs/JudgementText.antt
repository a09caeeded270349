-- What the private parts of judging promise. No public clause names these words.
use Rattle.std.specs.Prelude.{ℕ, ◌+◌, Bool, List, [], ◌∷◌, ◌++◌, codes, count_by, decimal, map}
use Rattle.std.specs.List.{concat, flat_map}
use Rattle.mimic_printer.specs.Json.{Entry}
use Rattle.mimic_events.specs.Contents.{entry_read}
use Rattle.mimic_events.specs.Key.{Key}
use Rattle.mimic_events.specs.declared.ending.Ending.{Ending}
use Rattle.mimic_events.specs.declared.report.Row.{Row}
use Rattle.mimic_expect.specs.Expect.{AbsentLine, FailedRow, Finding, OtherMessage, PassedLine, is_absent_line, is_failed_row, is_other_message, is_passed_line}
use Rattle.mimic_expect.specs.FindingText.{finding_text, running_text}
use Rattle.mimic_expect.specs.Known.{Expected, expected_read}
use Rattle.mimic_expect.specs.declared.known.Expectation.{Expectation}
use Rattle.mimic_expect.specs.declared.judgement.Judgement.{Judgement}
use Rattle.mimic_expect.specs.declared.judgement.Unexpected.{Unexpected}
use Rattle.mimic_expect.specs.declared.judgement.Unexpected.TheVariants.{Failed, AnotherMessage, Passed, Absent}
use Rattle.mimic_expect.specs.declared.options.Lines.{Lines}
use denote.Ref.{Bor}

abbrev pub finding_read : Unexpected → Finding
finding_read (Failed row) = FailedRow (entry_read row.now)
finding_read (AnotherMessage expectation row) = OtherMessage (expected_read expectation.now) (entry_read row.now)
finding_read (Passed expectation) = PassedLine (expected_read expectation.now)
finding_read (Absent expectation) = AbsentLine (expected_read expectation.now)

abbrev pub entries_read : List (Bor Row) → List Entry
entries_read rows = map (λ row. entry_read row.now) rows

abbrev pub expected_at : List (Bor Expectation) → List Expected
expected_at expectations = map (λ expectation. expected_read expectation.now) expectations

-- what is left of lines, as it reads
abbrev pub lines_left : List (Key × Bor Expectation) → List (Key × Expected)
lines_left left = map (λ x. (x.0, expected_read x.1.now)) left

-- what is left of rows, as it reads
abbrev pub rows_left : List (Key × Bor Row) → List (Key × Entry)
rows_left left = map (λ x. (x.0, entry_read x.1.now)) left

-- ---- the lines of a judgement

abbrev pub count_in : (Finding → Bool) → Judgement → ℕ
count_in test judgement = count_by (λ found. test (finding_read found)) judgement.unexpected.items

-- the line of its numbers, which also counts the `failed` failures that were printed before
abbrev pub judgement_numbers : Judgement → ℕ → List ℕ
judgement_numbers judgement failed = concat (decimal judgement.met ∷ codes " known failures; "
    ∷ decimal (failed + count_in is_failed_row judgement) ∷ codes " failed; "
    ∷ decimal (count_in is_passed_line judgement) ∷ codes " passed; "
    ∷ decimal (count_in is_other_message judgement) ∷ codes " with another message; "
    ∷ decimal (count_in is_absent_line judgement) ∷ codes " absent\n" ∷ [])

-- its findings, each as one line, a line of each trial that was running at these ends, and its numbers
abbrev pub judgement_text : Lines → Judgement → ℕ → List Ending → List ℕ
judgement_text lines judgement failed ends = flat_map (λ found. finding_text lines (finding_read found)) judgement.unexpected.items
    ++ (flat_map (running_text lines) ends ++ judgement_numbers judgement failed)
