-- What the places, the kinds and the kept outcomes of rows show.
use Rattle.std.proofs.Common.{◌≡◌, ◌∙◌, ◌↔◌, ℕ, suc, zero, ◌+◌, ◌-◌, ◌<◌, ◌≤◌, All, Bor, true, List, [], ◌∷◌, ◌++◌, None, Some, drop, length, length-append, slice_index_or, refl, sym, ap, arith}
use Rattle.std.specs.Prelude.{IfSome, IsSome, Option, slice_get}
use Rattle.std.specs.List.{zip}
use Rattle.std.specs.Option.{option_copied, option_eq}
use Rattle.std.proofs.Math.Seq.{drop-cons}
use Rattle.std.proofs.lemmas.List.{drop-append-le, drop-drop, length-drop, nil_from_length}
use Rattle.std.proofs.lemmas.List.Elements.{All-cons, All-head, All-tail}
use Rattle.std.proofs.lemmas.Slice.Zip.{get_or-zip, length-zip}
use Rattle.mimic_pool.specs.Prelude.{kept_after, kept_of, kind_of, Outcome, outcome_by, outcome_decides, OutcomeKind, Placed, rows_of, same_outcome, weight_of, weight_of_all}
use Rattle.mimic_trial.specs.declared.outcome.Outcome.TheVariants as outcome
use Rattle.mimic_pool.specs.declared.outcome_kind.OutcomeKind.TheVariants.{Passed, Ignored, Kept}
use Rattle.mimic_pool.proofs.Elements.{item_got}

-- ---- an outcome and its kind

told_again : (o : Outcome) → outcome_by (kind_of o) (kept_of o) ≡ o
told_again outcome.Passed = refl
told_again (outcome.Failed failed) = refl
told_again outcome.Ignored = refl
told_again (outcome.Measured measured) = refl

weight_kept : (o : Outcome) → length (kept_of o) ≡ weight_of (kind_of o)
weight_kept outcome.Passed = refl
weight_kept (outcome.Failed failed) = refl
weight_kept outcome.Ignored = refl
weight_kept (outcome.Measured measured) = refl

weight_one : (m : OutcomeKind) → weight_of m ≤ 1
weight_one Passed = omega arith
weight_one Ignored = omega arith
weight_one Kept = omega arith

-- ---- places with their kinds

weight_append : (ms ns : List (ℕ × OutcomeKind)) → weight_of_all (ms ++ ns) ≡ weight_of_all ms + weight_of_all ns
weight_append [] ns = omega arith
weight_append (m ∷ ms) ns = let rest = weight_append ms ns in omega arith

weight_few : (ms : List (ℕ × OutcomeKind)) → weight_of_all ms ≤ length ms
weight_few [] = omega arith
weight_few (m ∷ ms) = let one = weight_one m.1 in let rest = weight_few ms in omega arith

-- a row more, whose outcome is kept behind the others
rows_append : (ms : List (ℕ × OutcomeKind)) (kept more : List Outcome) (p : ℕ) (m : OutcomeKind) → length kept ≡ weight_of_all ms
    → rows_of (ms ++ (p, m) ∷ []) (kept ++ more) ≡ rows_of ms kept ++ (p, outcome_by m more) ∷ []
rows_append [] [] more p m len = refl
rows_append [] (o ∷ kept) more p m len = absurd (omega arith)
rows_append ((q, Passed) ∷ ms) kept more p m len = ap (λ rows. (q, outcome.Passed) ∷ rows) (rows_append ms kept more p m (omega arith))
rows_append ((q, Ignored) ∷ ms) kept more p m len = ap (λ rows. (q, outcome.Ignored) ∷ rows) (rows_append ms kept more p m (omega arith))
rows_append ((q, Kept) ∷ ms) [] more p m len = absurd (omega arith)
rows_append ((q, Kept) ∷ ms) (o ∷ kept) more p m len = ap (λ rows. (q, o) ∷ rows) (rows_append ms kept more p m (omega arith))

pub weight_left : (m : OutcomeKind) (kept : List Outcome) → length (kept_after m kept) ≡ length kept - weight_of m
weight_left m kept = length-drop (weight_of m) kept

-- ---- one row more

zip_more : (places : List ℕ) (kinds : List OutcomeKind) (p : ℕ) (m : OutcomeKind) → length kinds ≡ length places → zip (places ++ p ∷ []) (kinds ++ m ∷ []) ≡ zip places kinds ++ (p, m) ∷ []
zip_more [] [] p m len = refl
zip_more [] (n ∷ kinds) p m len = absurd (omega arith)
zip_more (q ∷ places) [] p m len = absurd (omega arith)
zip_more (q ∷ places) (n ∷ kinds) p m len = ap (λ l. (q, n) ∷ l) (zip_more places kinds p m (omega arith))

length_rows : (ms : List (ℕ × OutcomeKind)) (kept : List Outcome) → length (rows_of ms kept) ≡ length ms
length_rows [] kept = refl
length_rows (m ∷ ms) kept = ap suc (length_rows ms (kept_after m.1 kept))

module _ (places : List ℕ) (kinds : List OutcomeKind) (same : length kinds ≡ length places) where
  module _ (taken : ℕ) (few : taken ≤ length places) where
    left_more : (p : ℕ) (m : OutcomeKind) → drop taken (zip (places ++ p ∷ []) (kinds ++ m ∷ [])) ≡ drop taken (zip places kinds) ++ (p, m) ∷ []
    left_more p m =
        let len = length-zip places kinds in
        ap (drop taken) (zip_more places kinds p m same) ∙ drop-append-le taken (zip places kinds) ((p, m) ∷ []) (omega (arith, few, len))

    -- no more is kept than there are places
    pub kept_fits : (kept : List Outcome) → length kept ≡ weight_of_all (drop taken (zip places kinds)) → length kept ≤ length places
    kept_fits kept is =
        let weight = weight_few (drop taken (zip places kinds)) in
        let left = length-drop taken (zip places kinds) in
        let len = length-zip places kinds in
        omega (arith, is, weight, left, len)

    module _ (p : ℕ) (o : Outcome) (kept : List Outcome) (is : length kept ≡ weight_of_all (drop taken (zip places kinds))) where
      pub rows_more : rows_of (drop taken (zip (places ++ p ∷ []) (kinds ++ kind_of o ∷ []))) (kept ++ kept_of o) ≡ rows_of (drop taken (zip places kinds)) kept ++ (p, o) ∷ []
      rows_more =
          let left = drop taken (zip places kinds) in
          ap (λ all. rows_of all (kept ++ kept_of o)) (left_more p (kind_of o))
          ∙ (rows_append left kept (kept_of o) p (kind_of o) is ∙ ap (λ told. rows_of left kept ++ (p, told) ∷ []) (told_again o))

      pub weight_more : length (kept ++ kept_of o) ≡ weight_of_all (drop taken (zip (places ++ p ∷ []) (kinds ++ kind_of o ∷ [])))
      weight_more =
          let left = drop taken (zip places kinds) in
          let all = ap weight_of_all (left_more p (kind_of o)) ∙ weight_append left ((p, kind_of o) ∷ []) in
          let more = length-append kept (kept_of o) in
          let one = weight_kept o in
          omega (arith, all, more, one, is)

  pub count_left : (k : ℕ) (kept : List Outcome) → length (rows_of (drop k (zip places kinds)) kept) + k ≡ length places + (k - length places)
  count_left k kept = omega (arith, length_rows (drop k (zip places kinds)) kept, length-drop k (zip places kinds), length-zip places kinds)

  -- ---- the first row

  pub first_left : (k p : ℕ) (m : OutcomeKind) → k < length places → p ≡ slice_index_or places k p → m ≡ slice_index_or kinds k m
      → drop k (zip places kinds) ≡ (p, m) ∷ drop (k + 1) (zip places kinds)
  first_left k p m low place kind =
      let z = zip places kinds in
      let len = length-zip places kinds in
      let one : suc k ≡ k + 1 = omega arith in
      let here : slice_index_or z k (p, m) ≡ (p, m) = get_or-zip places kinds k (p, m) low (omega (arith, low, same)) ∙ (ap (λ q. (q, slice_index_or kinds k m)) (sym place) ∙ ap (λ n. (p, n)) (sym kind)) in
      drop-cons z k (p, m) (omega (arith, low, len)) ∙ (ap (λ row. row ∷ drop (suc k) z) here ∙ ap (λ n. (p, m) ∷ drop n z) one)

  -- nothing is left
  pub none_left : (k : ℕ) → length places ≤ k → drop k (zip places kinds) ≡ []
  none_left k high = nil_from_length (drop k (zip places kinds)) (let len = length-zip places kinds in let left = length-drop k (zip places kinds) in omega (arith, len, left, high))

-- ---- what holds of each row

kept_found : (kept : List Outcome) (i : ℕ) → i < length kept → slice_get kept i ≡ Some (outcome_by Kept (drop i kept))
kept_found [] i low = absurd (omega arith)
kept_found (o ∷ kept) zero low = refl
kept_found (o ∷ kept) (suc i) low = kept_found kept i (omega arith)

-- what was found compares as the outcome exactly if it is the outcome
same_found : (came got : Option (Bor Outcome)) (o : Outcome) → option_copied got ≡ Some o → (option_eq (λ x y. same_outcome x.now y.now) came got ≡ true) ↔ (option_copied came ≡ Some o)
same_found came None o is = absurd (cc)
same_found None (Some got) o is = (λ e. absurd (cc), λ e. absurd (cc))
same_found (Some came) (Some got) o is =
    let at : got.now ≡ o = cc in
    (λ e. ap Some ((outcome_decides came.now got.now).0 e ∙ at), λ e. let here : came.now ≡ o = cc in (outcome_decides came.now got.now).1 (here ∙ sym at))

pub same_kept : (came got : Option (Bor Outcome)) (kept : List Outcome) (i : ℕ) → i < length kept → (IsSome got → i < length kept) → (i < length kept → IsSome got) → IfSome got (λ x. x.now ≡ slice_index_or kept i x.now)
    → (option_eq (λ x y. same_outcome x.now y.now) came got ≡ true) ↔ (option_copied came ≡ Some (outcome_by Kept (drop i kept)))
same_kept came got kept i low within some is = same_found came got (outcome_by Kept (drop i kept)) (item_got got kept i within some is ∙ kept_found kept i low)

module _ (P : Placed → Type 0) where
  pub all_none : (ms : List (ℕ × OutcomeKind)) (kept : List Outcome) → ms ≡ [] → All P (rows_of ms kept)
  all_none ms kept none = rw none (λ k d low. absurd (omega arith))

  -- the kinds of a first row and those behind it
  module _ (ms rest : List (ℕ × OutcomeKind)) (p : ℕ) (m : OutcomeKind) (is : ms ≡ (p, m) ∷ rest) (kept : List Outcome) (i : ℕ) where
    rows_first : rows_of ms (drop i kept) ≡ (p, outcome_by m (drop i kept)) ∷ rows_of rest (drop (i + weight_of m) kept)
    rows_first = ap (λ l. rows_of l (drop i kept)) is ∙ ap (λ k. (p, outcome_by m (drop i kept)) ∷ rows_of rest k) (drop-drop (weight_of m) i kept)

    -- it holds of the first, so it holds of all if it does of those behind it
    pub all_behind : P (p, outcome_by m (drop i kept)) → All P (rows_of rest (drop (i + weight_of m) kept)) ↔ All P (rows_of ms (drop i kept))
    all_behind here =
        let row : Placed = (p, outcome_by m (drop i kept)) in
        let behind = rows_of rest (drop (i + weight_of m) kept) in
        rw rows_first (λ all. All-cons P row behind here all, λ all. All-tail P row behind all)

    -- if it holds of all, it does of the first
    pub all_first : All P (rows_of ms (drop i kept)) → P (p, outcome_by m (drop i kept))
    all_first all = All-head P (p, outcome_by m (drop i kept)) (rows_of rest (drop (i + weight_of m) kept)) (rw rows_first at all)
