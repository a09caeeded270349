-- Failures that are written as known ones, row after row.
use Rattle.std.proofs.Common.{◌≡◌, ◌==◌, ◌∙◌, ℕ, ◌+◌, Bool, true, false, List, [], ◌∷◌, ◌++◌, None, ap, append-nil, arith, get_or, map, refl, subst, sym}
use Rattle.std.specs.List.{AllByRecursion, flat_map}
use Rattle.std.proofs.lemmas.List.Concat.{flat_map-append}
use Rattle.std.proofs.lemmas.List.Elements.{filter-append}
use Rattle.mimic_trial.specs.declared.outcome.Outcome.{Outcome}
use Rattle.mimic_trial.specs.declared.outcome.Outcome.TheVariants.{Failed, Ignored, Measured, Passed}
use Rattle.mimic_trial.specs.Count.{is_failed}
use Rattle.mimic_printer.specs.Row.{Label}
use Rattle.mimic_printer.specs.Json.{Entry, FitsEntry, IsLine, json_outcome}
use Rattle.mimic_printer.specs.Sink.{Put, Shown, Stopped}
use Rattle.mimic_printer.proofs.Appending.{Put-Stopped}
use Rattle.mimic_expect.specs.Expect.{rows_with}
use Rattle.mimic_expect.specs.FindingText.{row_line}
use Rattle.mimic_events.proofs.SoFar.{an_outcome}
use Rattle.std.specs.Bool.{MatchBool}
use Rattle.std.proofs.lemmas.Bool.{cond_both, false≢true}
use Rattle.mimic_expect.specs.Known.{Expected, SayFrom, SaysFailure, lines_of, says_nothing}
use Rattle.mimic_expect.specs.KnownText.{SayFailures, known_text, untimed}
use Rattle.mimic_expect.proofs.KnownLines.{expected, line_off}

known_text-append : (rows more : List Entry) → known_text (rows ++ more) ≡ known_text rows ++ known_text more
known_text-append rows more =
    ap (flat_map row_line) (filter-append (λ (row : Entry). is_failed row.outcome) rows more)
    ∙ flat_map-append row_line (rows_with is_failed rows) (rows_with is_failed more)

-- the line of a failure
pub one_known : (row : Entry) → is_failed row.outcome ≡ true → row_line row ≡ known_text (row ∷ [])
one_known row e = rw e (sym (append-nil (row_line row)))

-- a beginning of the lines of more rows comes behind those that were written
pub known_stopped : (a b c : Shown) (rows more : List Entry) → Put a b (known_text rows) → Stopped b c (known_text more) → Stopped a c (known_text (rows ++ more))
known_stopped a b c rows more p q = subst (λ (l : List ℕ). Stopped a c l) (sym (known_text-append rows more)) (Put-Stopped _ _ p q)

-- ---- what the lines say

says_some : (front : List ℕ) → 123 ≡ get_or (front ++ 10 ∷ []) 0 0 → says_nothing front ≡ false
says_some [] e = absurd (omega (arith, e))
says_some (b ∷ front) e = subst (λ (n : ℕ). (n == 35) ≡ false) e refl

first_byte : (label : Label) (o : Outcome) → get_or (json_outcome label o None) 0 0 ≡ 123
unfolding json_outcome
first_byte label Passed = refl
first_byte label (Failed failed) = refl
first_byte label Ignored = refl
first_byte label (Measured measurement) = refl

-- one more line, which says something
more_said : (b : Bool) (number : ℕ) (row : Entry) (front : List ℕ) (lines : List (List ℕ)) (more : List Expected) → b ≡ false
    → (is_failed row.outcome ≡ true) × FitsEntry row × (front ++ 10 ∷ [] ≡ json_outcome row.label row.outcome row.nanos) → SayFrom (number + 1) lines more
    → MatchBool b (SayFrom (number + 1) lines (expected row number ∷ more))
    ((entry : Entry) × (rest : List Expected) × (expected row number ∷ more ≡ expected entry number ∷ rest) × SaysFailure entry front × SayFrom (number + 1) lines rest)
more_said true number row front lines more e says rest = absurd (false≢true (sym e))
more_said false number row front lines more e says rest = (row, more, refl, says, rest)

-- the text says of these rows that they are known, if its first line has this number
abbrev pub Says : ℕ → List ℕ → List Entry → Type 0
Says number text entries = (new : List Expected) × SayFrom number (lines_of text) new × (map (λ x. x.entry) new ≡ entries)

-- behind the line of a failure
pub behind_line : (m : ℕ) (entry : Entry) (line rest : List ℕ) (entries : List Entry) → (l : IsLine line) → says_nothing l.front ≡ false → SaysFailure entry l.front
    → Says (m + 1) rest entries → Says m (line ++ rest) (entry ∷ entries)
behind_line m entry line rest entries l some says after = (
  expected entry m ∷ after.0,
  subst (λ (ls : List (List ℕ)). SayFrom m ls (expected entry m ∷ after.0)) (sym (line_off (line ++ rest) line rest refl l))
      (more_said (says_nothing l.front) m entry l.front (lines_of rest) after.0 some says after.1),
  ap (λ (l : List Entry). entry ∷ l) after.2,
)

-- behind the line of a failure that is written
pub behind_row : (m : ℕ) (row : Entry) (rest : List ℕ) (entries : List Entry) → FitsEntry row → is_failed row.outcome ≡ true → Says (m + 1) rest entries
    → Says m (row_line row ++ rest) (untimed row ∷ entries)
behind_row m row rest entries fits failed after =
    let l : IsLine (row_line row) = an_outcome row.label (row.outcome, None) fits.label fits.outcome tt in
    let one : FitsEntry (untimed row) = record { label = fits.label; outcome = fits.outcome; nanos = tt } in
    let some = says_some l.front (sym (first_byte row.label row.outcome) ∙ ap (λ (t : List ℕ). get_or t 0 0) l.parts) in
    behind_line m (untimed row) (row_line row) rest entries l some (failed, one, sym l.parts) after

say_from : (number : ℕ) (rows : List Entry) → AllByRecursion FitsEntry rows → Says number (known_text rows) (map untimed (rows_with is_failed rows))
say_from number [] fits = ([], refl, refl)
say_from number (row ∷ rows) fits =
    cond_both (is_failed row.outcome) (row ∷ rows_with is_failed rows) (rows_with is_failed rows) (λ l. Says number (flat_map row_line l) (map untimed l))
    (λ e. behind_row number row (known_text rows) _ fits.0 e (say_from (number + 1) rows fits.1)) (λ _. say_from number rows fits.1)

pub say_failures : SayFailures
say_failures rows fits = say_from 1 rows fits
