-- What the new text of a file says, line after line.
use Rattle.std.proofs.Common.{◌≡◌, ◌≢◌, ◌==◌, ℕ, ◌+◌, Bool, true, false, cond, List, [], ◌∷◌, ◌++◌, append_assoc, map, None, Option, Some, ap, arith, refl, subst, sym}
use Rattle.std.specs.Prelude.{filter}
use Rattle.std.specs.Bool.{MatchBool}
use Rattle.std.specs.List.{AllByRecursion, flat_map, onto_first}
use Rattle.std.specs.Map.{lookup, remove_entry}
use Rattle.std.specs.Option.{option_or}
use Rattle.std.proofs.lemmas.Bool.{cond_both}
use Rattle.std.proofs.lemmas.Bool.Decides.{nat_tests}
use Rattle.mimic_trial.specs.declared.outcome.Outcome.{Outcome}
use Rattle.mimic_trial.specs.declared.outcome.Outcome.TheVariants.{Failed, Ignored, Measured, Passed}
use Rattle.mimic_trial.specs.Count.{is_failed, is_ignored_outcome}
use Rattle.mimic_printer.specs.Json.{Entry, FitsEntry, HasNoEnd, IsLine}
use Rattle.mimic_events.specs.Key.{Key, any_in, same_key}
use Rattle.mimic_expect.specs.Expect.{AbsentLine, FailedRow, Finding, OtherMessage, PassedLine, answers, counts, fate, finding_of, findings, has_passed, keyed, labelled, left_in, others_in, rows_with, unanswered, unmet_by}
use Rattle.mimic_expect.specs.FindingText.{row_line}
use Rattle.mimic_expect.specs.Known.{AreExpected, Expected, SayFrom, SaysFailure, lines_of, says_nothing}
use Rattle.mimic_expect.specs.KnownText.{untimed}
use Rattle.mimic_expect.specs.Updated.{IsSaid, UpdateLaws, added_line, added_rows, found_at, is_number, kept_line, kept_lines, known_line, line_of, said_after, updated_text}
use Rattle.mimic_expect.proofs.ChangedLines.{apart}
use Rattle.mimic_expect.proofs.KnownLines.{expected, line_off}
use Rattle.mimic_expect.proofs.KnownTexts.{Says, behind_line, behind_row}
use Rattle.mimic_expect.proofs.Laws.{all_but}
use Rattle.mimic_expect.proofs.Strangers.{all_unmet}

-- ---- lists of which each fits

module _ {X : Type 0} (P : X → Type 0) where
  all_append : (xs ys : List X) → AllByRecursion P xs → AllByRecursion P ys → AllByRecursion P (xs ++ ys)
  all_append [] ys h k = k
  all_append (x ∷ xs) ys h k = (h.0, all_append xs ys h.1 k)

  all_filtered : (p : X → Bool) (xs : List X) → AllByRecursion P xs → AllByRecursion P (filter p xs)
  all_filtered p [] h = tt
  all_filtered p (x ∷ xs) h =
      let rest = all_filtered p xs h.1 in
      cond_both (p x) (x ∷ filter p xs) (filter p xs) (AllByRecursion P) (λ _. (h.0, rest)) (λ _. rest)

-- ---- findings whose rows can be written

abbrev FitsFailed : Entry → Type 0
FitsFailed row = FitsEntry row × (is_failed row.outcome ≡ true)

abbrev FitsFinding : Finding → Type 0
FitsFinding (FailedRow row) = FitsFailed row
FitsFinding (OtherMessage e row) = FitsFailed row
FitsFinding (PassedLine e) = Unit {0}
FitsFinding (AbsentLine e) = Unit {0}

abbrev AreFitting : List Finding → Type 0
AreFitting found = AllByRecursion FitsFinding found

abbrev RowsFit : List Entry → Type 0
RowsFit rows = AllByRecursion FitsEntry rows

abbrev PairsFit : List (Key × Entry) → Type 0
PairsFit items = AllByRecursion (λ (x : Key × Entry). FitsEntry x.1) items

labelled_fit : (rows : List Entry) → RowsFit rows → PairsFit (labelled rows)
labelled_fit [] h = tt
labelled_fit (row ∷ rows) h = (h.0, labelled_fit rows h.1)

rows_fit : (items : List (Key × Entry)) → PairsFit items → RowsFit (map (λ (x : Key × Entry). x.1) items)
rows_fit [] h = tt
rows_fit (x ∷ items) h = (h.0, rows_fit items h.1)

removed_fit : (test : Key → Bool) (items : List (Key × Entry)) → PairsFit items → PairsFit (remove_entry test items)
removed_fit = all_but (λ (x : Key × Entry). FitsEntry x.1)

looked_up : (test : Key → Bool) (items : List (Key × Entry)) → PairsFit items → (row : Entry) → lookup test items ≡ Some row → FitsEntry row
looked_up test [] h row e = absurd (cc)
looked_up test (x ∷ items) h row e =
    cond_both (test x.0) (Some x.1) (lookup test items) (λ o. o ≡ Some row → FitsEntry row)
    (λ _ e. subst FitsEntry (let is : x.1 ≡ row = cc in is) h.0) (λ _. looked_up test items h.1 row) e

finding_fits : (e : Expected) (row : Entry) → FitsEntry row → (o : Outcome) → row.outcome ≡ o → AreFitting (finding_of e row o)
finding_fits e row h Passed is = (tt, tt)
finding_fits e row h (Failed message) is = ((h, ap is_failed is), tt)
finding_fits e row h Ignored is = tt
finding_fits e row h (Measured m) is = (tt, tt)

fate_fits : (are_all : Bool) (e : Expected) (o : Option Entry) → ((row : Entry) → o ≡ Some row → FitsEntry row) → AreFitting (fate are_all (e, o))
fate_fits are_all e (Some row) h = finding_fits e row (h row refl) row.outcome refl
fate_fits true e None h = (tt, tt)
fate_fits false e None h = tt

answers_fit : (are_all : Bool) (items : List (Key × Entry)) (left : List Expected) → PairsFit items → AreFitting (flat_map (fate are_all) (answers items left))
answers_fit are_all items [] h = tt
answers_fit are_all items (e ∷ left) h =
    let test = same_key (any_in e.entry) in
    all_append FitsFinding (fate are_all (e, lookup test items)) _ (fate_fits are_all e (lookup test items) (looked_up test items h))
    (answers_fit are_all (remove_entry test items) left (removed_fit test items h))

unanswered_fit : (items : List (Key × Entry)) (left : List Expected) → PairsFit items → PairsFit (unanswered items left)
unanswered_fit items [] h = h
unanswered_fit items (e ∷ left) h = unanswered_fit (remove_entry (same_key (any_in e.entry)) items) left (removed_fit (same_key (any_in e.entry)) items h)

failed_fit : (rows : List Entry) → RowsFit rows → AreFitting (map FailedRow (rows_with is_failed rows))
failed_fit [] h = tt
failed_fit (row ∷ rows) h =
    let rest = failed_fit rows h.1 in
    cond_both (is_failed row.outcome) (row ∷ rows_with is_failed rows) (rows_with is_failed rows) (λ l. AreFitting (map FailedRow l)) (λ e. ((h.0, e), rest)) (λ _. rest)

rows_of_outcome : (test : Outcome → Bool) (rows : List Entry) → RowsFit rows → RowsFit (rows_with test rows)
rows_of_outcome test rows h = all_filtered FitsEntry (λ (row : Entry). test row.outcome) rows h

findings_fit : (expected : List Expected) (rows : List Entry) (are_all : Bool) → RowsFit rows → AreFitting (findings expected rows are_all)
findings_fit expected rows are_all h =
    let others = labelled_fit (others_in expected rows) (all_append FitsEntry (unmet_by (keyed expected) (rows_with is_failed rows)) _
    (all_unmet FitsEntry (keyed expected) (rows_with is_failed rows) (rows_of_outcome is_failed rows h))
    (all_append FitsEntry (rows_with has_passed rows) (rows_with is_ignored_outcome rows) (rows_of_outcome has_passed rows h) (rows_of_outcome is_ignored_outcome rows h))) in
    let items = labelled (others_in expected rows) in
    let left = left_in expected rows in
    all_append FitsFinding (flat_map (fate are_all) (answers items left)) _ (answers_fit are_all items left others)
    (failed_fit _ (rows_fit (unanswered items left) (unanswered_fit items left others)))

-- what is found about a line fits
found_fits : (found : List Finding) → AreFitting found → (number : ℕ) (f : Finding) → found_at found number ≡ Some f → FitsFinding f
found_fits [] h number f e = absurd (cc)
found_fits (g ∷ found) h number f e = at (found_at found number) (found_fits found h.1 number f) (is_number number (line_of g)) e
  where
    at : (o : Option Finding) → (o ≡ Some f → FitsFinding f) → (b : Bool) → option_or o (cond b (Some g) None) ≡ Some f → FitsFinding f
    at (Some x) rest b e = rest e
    at None rest true e = subst FitsFinding (let same : g ≡ f = cc in same) h.0
    at None rest false e = absurd (cc)

-- ---- lines without ends

onto_no_end : (b : ℕ) (lines : List (List ℕ)) → b ≢ 10 → AllByRecursion HasNoEnd lines → AllByRecursion HasNoEnd (onto_first b lines)
onto_no_end b [] ne h = ((ne, tt), tt)
onto_no_end b (line ∷ lines) ne h = ((ne, h.0), h.1)

no_ends : (text : List ℕ) → AllByRecursion HasNoEnd (lines_of text)
no_ends [] = (tt, tt)
no_ends (b ∷ text) =
    let rest = no_ends text in
    cond_both (b == 10) ([] ∷ lines_of text) (onto_first b (lines_of text)) (AllByRecursion HasNoEnd) (λ _. (tt, rest))
    (λ e. onto_no_end b (lines_of text) (let ne : b ≢ 10 = grind (arith, nat_tests) in ne) rest)

-- ---- what a text says behind one more line

more_quiet : (b : Bool) (number : ℕ) (line : List ℕ) (lines : List (List ℕ)) (more : List Expected) → b ≡ true → SayFrom (number + 1) lines more
    → MatchBool b (SayFrom (number + 1) lines more) ((entry : Entry) × (rest : List Expected) × (more ≡ expected entry number ∷ rest) × SaysFailure entry line × SayFrom (number + 1) lines rest)
more_quiet true number line lines more e says = says
more_quiet false number line lines more e says = absurd (cc)

-- behind a line that says nothing
behind_quiet : (m : ℕ) (line rest : List ℕ) (entries : List Entry) → HasNoEnd line → says_nothing line ≡ true → Says (m + 1) rest entries → Says m ((line ++ 10 ∷ []) ++ rest) entries
behind_quiet m line rest entries h quiet after =
    let l : IsLine (line ++ 10 ∷ []) = record { front = line; whole = h; parts = refl } in (
      after.0,
      subst (λ (ls : List (List ℕ)). SayFrom m ls after.0) (sym (line_off ((line ++ 10 ∷ []) ++ rest) (line ++ 10 ∷ []) rest refl l))
          (more_quiet (says_nothing line) m line (lines_of rest) after.0 quiet after.1),
      after.2,
    )

-- ---- the failures that are added

added_said : (found : List Finding) → AreFitting found → (m : ℕ) → Says m (flat_map added_line found) (flat_map added_rows found)
added_said [] h m = ([], refl, refl)
added_said (FailedRow row ∷ found) h m = behind_row m row (flat_map added_line found) (flat_map added_rows found) h.0.0 h.0.1 (added_said found h.1 (m + 1))
added_said (OtherMessage e row ∷ found) h m = added_said found h.1 m
added_said (PassedLine e ∷ found) h m = added_said found h.1 m
added_said (AbsentLine e ∷ found) h m = added_said found h.1 m

-- ---- the lines of the file

module _ (found : ℕ → Option Finding) (fit : (number : ℕ) (f : Finding) → found number ≡ Some f → FitsFinding f) (tail : List ℕ) (last : List Entry)
    (behind : (m : ℕ) → Says m tail last) where
  abbrev after : List Expected → List Entry
  after known = flat_map (λ (e : Expected). said_after e (found e.line)) known ++ last

  -- the line of a known failure
  known_said : (number m : ℕ) (line rest : List ℕ) (entry : Entry) (more : List Expected) → HasNoEnd line → says_nothing line ≡ false → SaysFailure entry line
      → ((m : ℕ) → Says m (rest ++ tail) (after more)) → (o : Option Finding) → found number ≡ o
      → Says m ((known_line line o ++ rest) ++ tail) (said_after (expected entry number) o ++ after more)
  known_said number m line rest entry more h some says next None e =
      subst (λ (t : List ℕ). Says m t (entry ∷ after more)) (sym (append_assoc (line ++ 10 ∷ []) rest tail))
      (behind_line m entry (line ++ 10 ∷ []) (rest ++ tail) (after more) (record { front = line; whole = h; parts = refl }) some says (next (m + 1)))
  known_said number m line rest entry more h some says next (Some (OtherMessage x row)) e =
      subst (λ (t : List ℕ). Says m t (untimed row ∷ after more)) (sym (append_assoc (row_line row) rest tail))
      (let f = fit number (OtherMessage x row) e in behind_row m row (rest ++ tail) (after more) f.0 f.1 (next (m + 1)))
  known_said number m line rest entry more h some says next (Some (PassedLine x)) e = next m
  known_said number m line rest entry more h some says next (Some (AbsentLine x)) e = next m
  known_said number m line rest entry more h some says next (Some (FailedRow x)) e = next m

  -- any line
  line_said : (number m : ℕ) (line rest : List ℕ) (lines : List (List ℕ)) (known : List Expected) → HasNoEnd line → SayFrom number (line ∷ lines) known
      → ((m : ℕ) (more : List Expected) → SayFrom (number + 1) lines more → Says m (rest ++ tail) (after more))
      → Says m ((kept_line line (found number) ++ rest) ++ tail) (after known)
  line_said number m line rest lines known h says next = at (says_nothing line) refl says
    where
      at : (b : Bool) → says_nothing line ≡ b
          → MatchBool b (SayFrom (number + 1) lines known) ((entry : Entry) × (more : List Expected) × (known ≡ expected entry number ∷ more) × SaysFailure entry line × SayFrom (number + 1) lines more)
          → Says m ((cond b (line ++ 10 ∷ []) (known_line line (found number)) ++ rest) ++ tail) (after known)
      at true e says =
          subst (λ (t : List ℕ). Says m t (after known)) (sym (append_assoc (line ++ 10 ∷ []) rest tail))
          (behind_quiet m line (rest ++ tail) (after known) h e (next (m + 1) known says))
      at false e says =
          subst (λ (k : List Expected). Says m ((known_line line (found number) ++ rest) ++ tail) (after k)) (sym says.2)
          (subst (λ (l : List Entry). Says m ((known_line line (found number) ++ rest) ++ tail) l)
          (sym (append_assoc (said_after (expected says.0 number) (found number)) (flat_map (λ (e : Expected). said_after e (found e.line)) says.1) last))
          (known_said number m line rest says.0 says.1 h e says.3 (λ m. next m says.1 says.4) (found number) refl))

  none_said : (m : ℕ) (known : List Expected) → known ≡ [] → Says m tail (after known)
  none_said m known e = subst (λ (k : List Expected). Says m tail (after k)) (sym e) (behind m)

  kept_said : (number m : ℕ) (lines : List (List ℕ)) (known : List Expected) → AllByRecursion HasNoEnd lines → SayFrom number lines known
      → Says m (kept_lines found number lines ++ tail) (after known)
  kept_said number m [] known h says = none_said m known says
  kept_said number m ([] ∷ []) known h says = none_said m known says
  kept_said number m ([] ∷ next ∷ lines) known h says =
      line_said number m [] (kept_lines found (number + 1) (next ∷ lines)) (next ∷ lines) known h.0 says (λ m more. kept_said (number + 1) m (next ∷ lines) more h.1)
  kept_said number m ((b ∷ line) ∷ lines) known h says =
      line_said number m (b ∷ line) (kept_lines found (number + 1) lines) lines known h.0 says (λ m more. kept_said (number + 1) m lines more h.1)

is_said : (text : List ℕ) (known : List Expected) (rows : List Entry) (are_all lax : Bool) → AreExpected known text → RowsFit rows
    → IsSaid (updated_text text (filter (counts lax) (findings known rows are_all))) known (filter (counts lax) (findings known rows are_all))
is_said text known rows are_all lax says fits =
    let found = filter (counts lax) (findings known rows are_all) in
    let fit = all_filtered FitsFinding (counts lax) (findings known rows are_all) (findings_fit known rows are_all fits) in
    let said = kept_said (found_at found) (found_fits found fit) (flat_map added_line found) (flat_map added_rows found) (added_said found fit) 1 1 (lines_of text) known (no_ends text) says in
    record { known = said.0; says = said.1; entries = said.2 }

pub update_laws : UpdateLaws
update_laws = record { apart = apart; said = is_said }
