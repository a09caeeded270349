-- The lines of a file that findings are about.
use Rattle.std.proofs.Common.{◌≡◌, ◌==◌, ◌⊎◌, ◌∙◌, inl, inr, ℕ, ◌+◌, ◌<◌, Bool, true, false, List, [], ◌∷◌, ◌++◌, append-nil, map, None, Option, Some, option_to_list, ap, arith, refl, subst, sym}
use Rattle.std.specs.Prelude.{filter}
use Rattle.std.specs.Bool.{MatchBool}
use Rattle.std.specs.List.{AllByRecursion, IsDistinct, flat_map}
use Rattle.std.specs.Map.{lookup, remove_entry}
use Rattle.std.proofs.lemmas.Bool.{cond_both}
use Rattle.std.proofs.lemmas.Bool.Decides.{nat_tests}
use Rattle.std.proofs.lemmas.List.{map-append}
use Rattle.std.proofs.lemmas.List.Concat.{flat_map-append}
use Rattle.std.proofs.lemmas.List.Elements.{filter-append}
use Rattle.std.proofs.lemmas.List.Sorted.{IsPermutation-map}
use Rattle.std.proofs.lemmas.Map.Keys.{IsDistinct-IsPermutation}
use Rattle.std.proofs.lemmas.Simd.{map-map}
use Rattle.mimic_trial.specs.declared.outcome.Outcome.{Outcome}
use Rattle.mimic_trial.specs.declared.outcome.Outcome.TheVariants.{Failed, Ignored, Measured, Passed}
use Rattle.mimic_trial.specs.Count.{is_failed}
use Rattle.mimic_printer.specs.Json.{Entry}
use Rattle.mimic_events.specs.Key.{Key, any_in, same_key}
use Rattle.mimic_expect.specs.Expect.{AbsentLine, FailedRow, Finding, OtherMessage, PassedLine, answers, counts, fate, finding_of, findings, keyed, labelled, left_in, met_by, others_in, rows_with, unanswered}
use Rattle.mimic_expect.specs.Known.{AreExpected, Expected, SayFrom, SaysFailure, lines_of, says_nothing}
use Rattle.mimic_expect.specs.Updated.{about, line_of}
use Rattle.mimic_expect.proofs.KnownLines.{expected}
use Rattle.mimic_expect.proofs.Laws.{matching_law}

abbrev same : ℕ → ℕ → Bool
same a b = a == b

abbrev line_in : Expected → ℕ
line_in e = e.line

-- ---- the lines of known failures

module _ (m : ℕ) where
  abbrev IsOther : ℕ → Type 0
  IsOther n = (m == n) ≡ false

  others : (number : ℕ) (lines : List (List ℕ)) (known : List Expected) → m < number → SayFrom number lines known → AllByRecursion IsOther (map line_in known)
  others number [] known lt says = subst (λ (k : List Expected). AllByRecursion IsOther (map line_in k)) (sym says) tt
  others number (line ∷ lines) known lt says = at (says_nothing line) (λ k. others (number + 1) lines k (omega (arith, lt))) says
    where
      at : (b : Bool) → ((k : List Expected) → SayFrom (number + 1) lines k → AllByRecursion IsOther (map line_in k))
          → MatchBool b (SayFrom (number + 1) lines known) ((entry : Entry) × (more : List Expected) × (known ≡ expected entry number ∷ more) × SaysFailure entry line × SayFrom (number + 1) lines more)
          → AllByRecursion IsOther (map line_in known)
      at true rest h = rest known h
      at false rest h =
          subst (λ (k : List Expected). AllByRecursion IsOther (map line_in k)) (sym h.2) (let ne : (m == number) ≡ false = grind (arith, nat_tests) in ne, rest h.1 h.4)

distinct : (number : ℕ) (lines : List (List ℕ)) (known : List Expected) → SayFrom number lines known → IsDistinct same (map line_in known)
unfolding IsDistinct
distinct number [] known says = subst (λ (k : List Expected). IsDistinct same (map line_in k)) (sym says) tt
distinct number (line ∷ lines) known says = at (says_nothing line) (distinct (number + 1) lines) says
  where
    at : (b : Bool) → ((k : List Expected) → SayFrom (number + 1) lines k → IsDistinct same (map line_in k))
        → MatchBool b (SayFrom (number + 1) lines known) ((entry : Entry) × (more : List Expected) × (known ≡ expected entry number ∷ more) × SaysFailure entry line × SayFrom (number + 1) lines more)
        → IsDistinct same (map line_in known)
    at true rest h = rest known h
    at false rest h =
        subst (λ (k : List Expected). IsDistinct same (map line_in k)) (sym h.2)
        (others number (number + 1) lines h.1 (omega arith) h.4, rest h.1 h.4)

-- ---- some of a list, in their order

abbrev Some_of : List ℕ → List ℕ → Type 0
Some_of xs [] = xs ≡ []
Some_of xs (y ∷ ys) = Some_of xs ys ⊎ ((rest : List ℕ) × (xs ≡ y ∷ rest) × Some_of rest ys)

all_of : (P : ℕ → Type 0) (xs ys : List ℕ) → Some_of xs ys → AllByRecursion P ys → AllByRecursion P xs
all_of P xs [] s h = subst (AllByRecursion P) (sym s) tt
all_of P xs (y ∷ ys) (inl s) h = all_of P xs ys s h.1
all_of P xs (y ∷ ys) (inr s) h = subst (AllByRecursion P) (sym s.1) (h.0, all_of P s.0 ys s.2 h.1)

distinct_of : (xs ys : List ℕ) → Some_of xs ys → IsDistinct same ys → IsDistinct same xs
unfolding IsDistinct
distinct_of xs [] s h = subst (IsDistinct same) (sym s) tt
distinct_of xs (y ∷ ys) (inl s) h = distinct_of xs ys s h.1
distinct_of xs (y ∷ ys) (inr s) h = subst (IsDistinct same) (sym s.1) (all_of (λ n. (y == n) ≡ false) s.0 ys s.2 h.0, distinct_of s.0 ys s.2 h.1)

some_behind : (front xs ys : List ℕ) → Some_of xs ys → Some_of (front ++ xs) (front ++ ys)
some_behind [] xs ys s = s
some_behind (n ∷ front) xs ys s = inr (front ++ xs, refl, some_behind front xs ys s)

-- ---- what findings are about

module _ (lax : Bool) where
  abbrev lines_in : List Finding → List ℕ
  lines_in found = flat_map about (filter (counts lax) found)

  lines-append : (xs ys : List Finding) → lines_in (xs ++ ys) ≡ lines_in xs ++ lines_in ys
  lines-append xs ys = ap (flat_map about) (filter-append (counts lax) xs ys) ∙ flat_map-append about (filter (counts lax) xs) (filter (counts lax) ys)

  -- at most this line
  abbrev AtMost : ℕ → List ℕ → Type 0
  AtMost n xs = (xs ≡ []) ⊎ (xs ≡ n ∷ [])

  one_about : (f : Finding) (n : ℕ) → line_of f ≡ Some n → AtMost n (lines_in (f ∷ []))
  one_about f n e =
      cond_both (counts lax f) (f ∷ []) [] (λ l. AtMost n (flat_map about l)) (λ _. inr (ap (λ (o : Option ℕ). option_to_list o ++ []) e)) (λ _. inl refl)

  finding_about : (e : Expected) (row : Entry) (o : Outcome) → AtMost e.line (lines_in (finding_of e row o))
  finding_about e row Passed = one_about (PassedLine e) e.line refl
  finding_about e row (Failed message) = one_about (OtherMessage e row) e.line refl
  finding_about e row Ignored = inl refl
  finding_about e row (Measured m) = one_about (PassedLine e) e.line refl

  fate_about : (are_all : Bool) (e : Expected) (o : Option Entry) → AtMost e.line (lines_in (fate are_all (e, o)))
  fate_about are_all e (Some row) = finding_about e row row.outcome
  fate_about true e None = one_about (AbsentLine e) e.line refl
  fate_about false e None = inl refl

  one_more : (n : ℕ) (first xs ys : List ℕ) → AtMost n first → Some_of xs ys → Some_of (first ++ xs) (n ∷ ys)
  one_more n first xs ys (inl e) s = inl (subst (λ (l : List ℕ). Some_of (l ++ xs) ys) (sym e) s)
  one_more n first xs ys (inr e) s = inr (xs, ap (λ (l : List ℕ). l ++ xs) e, s)

  answers_about : (are_all : Bool) (items : List (Key × Entry)) (left : List Expected) → Some_of (lines_in (flat_map (fate are_all) (answers items left))) (map line_in left)
  answers_about are_all items [] = refl
  answers_about are_all items (e ∷ left) =
      let test = same_key (any_in e.entry) in
      let here = fate are_all (e, lookup test items) in
      let rest = flat_map (fate are_all) (answers (remove_entry test items) left) in
      subst (λ (l : List ℕ). Some_of l (e.line ∷ map line_in left)) (sym (lines-append here rest))
      (one_more e.line (lines_in here) (lines_in rest) (map line_in left) (fate_about are_all e (lookup test items)) (answers_about are_all (remove_entry test items) left))

  none_about : (rows : List Entry) → lines_in (map FailedRow rows) ≡ []
  none_about [] = refl
  none_about (row ∷ rows) = none_about rows

  findings_about : (known : List Expected) (rows : List Entry) (are_all : Bool) → Some_of (lines_in (findings known rows are_all)) (map line_in (left_in known rows))
  findings_about known rows are_all =
      let items = labelled (others_in known rows) in
      let left = left_in known rows in
      let said = flat_map (fate are_all) (answers items left) in
      let last = rows_with is_failed (map (λ (x : Key × Entry). x.1) (unanswered items left)) in
      let e : lines_in (said ++ map FailedRow last) ≡ lines_in said =
      lines-append said (map FailedRow last) ∙ (ap (λ (l : List ℕ). lines_in said ++ l) (none_about last) ∙ append-nil (lines_in said)) in
      subst (λ (l : List ℕ). Some_of l (map line_in left)) (sym e) (answers_about are_all items left)

flips : (a b : ℕ) → same a b ≡ same b a
flips a b = grind (arith, nat_tests)

pub apart : (text : List ℕ) (known : List Expected) (rows : List Entry) (are_all lax : Bool) → AreExpected known text
    → IsDistinct (λ (a b : ℕ). a == b) (map (λ (m : Expected × Entry). m.0.line) (met_by (keyed known) (rows_with is_failed rows))
    ++ flat_map about (filter (counts lax) (findings known rows are_all)))
apart text known rows are_all lax says =
    let failures = rows_with is_failed rows in
    let met = met_by (keyed known) failures in
    let front = map (λ (m : Expected × Entry). m.0.line) met in
    let left = left_in known rows in
    let shuffled = IsPermutation-map line_in known _ (matching_law known failures).lines in
    let parts : map line_in (map (λ (m : Expected × Entry). m.0) met ++ left) ≡ front ++ map line_in left =
    map-append line_in (map (λ (m : Expected × Entry). m.0) met) left ∙ ap (λ (l : List ℕ). l ++ map line_in left) (map-map line_in (λ (m : Expected × Entry). m.0) met) in
    let all = IsDistinct-IsPermutation same flips _ _ shuffled (distinct 1 (lines_of text) known says) in
    distinct_of _ _ (some_behind front _ _ (findings_about lax known rows are_all)) (subst (IsDistinct same) parts all)
