-- Files of known failures: the lines of failed trials, with comments and empty lines between (our own).
use Rattle.std.specs.Prelude.{◌≡◌, ◌==◌, ◌⊎◌, ℕ, ◌+◌, Bool, true, List, [], ◌∷◌, ◌++◌, length, ⊤}
use Rattle.std.specs.Bool.{MatchBool}
use Rattle.std.specs.List.{AllByRecursion, slice_split}
use Rattle.mimic_printer.specs.Json.{Entry}
use Rattle.mimic_events.specs.Contents.{entry_read}
use Rattle.mimic_events.specs.Reading.{IsFailedLine}
use Rattle.mimic_expect.specs.declared.known.Expectation.{Expectation}
use Rattle.mimic_expect.specs.declared.known.KnownFault.{KnownFault}
use Rattle.mimic_expect.specs.declared.known.KnownFault.TheVariants.{Line, OutOfMemory}

-- a known failure: what its line says about a trial, and the number of that line. A time in it takes no part in what meets it
pub record Expected : Type 0 where
  pub entry : Entry
  pub line : ℕ

abbrev pub expected_read : Expectation → Expected
expected_read expectation = record { entry = entry_read expectation.row; line = expectation.line }

-- the lines of a text, without their ends; what follows the last end is a line too
abbrev pub lines_of : List ℕ → List (List ℕ)
lines_of text = slice_split (λ b. b == 10) text

-- the line is empty, or a comment, which begins with `#`
abbrev pub says_nothing : List ℕ → Bool
says_nothing [] = true
says_nothing (b ∷ bs) = b == 35

-- a report has this line, with an end, of the failed trial, with a time or without one
abbrev pub SaysFailure : Entry → List ℕ → Type 0
SaysFailure entry line = IsFailedLine entry (line ++ 10 ∷ [])

-- the lines, whose first one has this number, say these failures in their order, and nothing else
abbrev pub SayFrom : ℕ → List (List ℕ) → List Expected → Type 0
SayFrom number [] expected = expected ≡ []
SayFrom number (line ∷ lines) expected = MatchBool (says_nothing line) (SayFrom (number + 1) lines expected)
    ((entry : Entry) × (more : List Expected) × (expected ≡ record { entry = entry; line = number } ∷ more)
    × SaysFailure entry line × SayFrom (number + 1) lines more)

-- the text says that these failures are known; its lines are counted from 1
abbrev pub AreExpected : List Expected → List ℕ → Type 0
AreExpected expected text = SayFrom 1 (lines_of text) expected

-- the line says nothing, or a failure
abbrev pub IsReadable : List ℕ → Type 0
IsReadable line = (says_nothing line ≡ true) ⊎ ((entry : Entry) × SaysFailure entry line)

-- the line of this number, from 1, is the first of the text that cannot be read
pub record IsFirstUnreadable (text : List ℕ) (number : ℕ) : Type 0 where
  pub before : List (List ℕ)
  pub line : List ℕ
  pub after : List (List ℕ)
  pub parts : lines_of text ≡ before ++ line ∷ after
  pub place : number ≡ length before + 1
  pub readable : AllByRecursion IsReadable before
  pub wrong : IsReadable line → ⊥

-- why the text says no known failures
abbrev pub CannotSay : List ℕ → KnownFault → Type 0
CannotSay text OutOfMemory = ⊤
CannotSay text (Line number) = IsFirstUnreadable text number
