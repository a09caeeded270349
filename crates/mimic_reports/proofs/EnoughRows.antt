-- Of rows that come one after another, the slowest so far are enough to find the slowest of all.
use Rattle.std.proofs.Common.{◌≡◌, ℕ, zero, suc, ◌≤◌, ◌<◌, ◌==◌, cond, ltb, Bool, true, false, inl, inr, List, [], ◌∷◌, ◌++◌, take, filter, Some, refl, sym, ap, ap₂, subst, ◌∙◌, arith, append-nil, append_assoc}
use Rattle.std.specs.List.{All, AllPairs}
use Rattle.std.specs.List.Sorted.{IsPermutation}
use Rattle.std.proofs.lemmas.Bool.{cases_lt, eq-eqb, eqb-true, le-ltb, lt-ltb, ne_eqb}
use Rattle.std.proofs.lemmas.List.{get_or-take, length-take, take-take}
use Rattle.std.proofs.lemmas.List.Concat.{flat_map-append}
use Rattle.std.proofs.lemmas.List.Elements.{All-cons, All-head, All-nil, All-tail, All-weaker, filter-append}
use Rattle.std.proofs.lemmas.List.Kept.{AllPairs-cons}
use Rattle.std.proofs.lemmas.List.Sorted.{All-permutation, IsPermutation-cons, IsPermutation-middle, IsPermutation-refl, IsPermutation-to_front, IsPermutation-trans}
use Rattle.mimic_printer.specs.Json.{Entry}
use Rattle.mimic_reports.specs.Slowest.{IsEnough, IsSlowestFirst, Timed, timed_among, timed_in, timed_with}

-- the row is no slower than this one
abbrev IsAfter : Timed → Timed → Type 0
IsAfter row later = later.nanos ≤ row.nanos

abbrev Falls : List Timed → Type 0
Falls = AllPairs IsAfter

first_falls : (x : Timed) (xs : List Timed) → Falls (x ∷ xs) → All (IsAfter x) xs
first_falls x xs h = λ k other within. h 0 (suc k) other (omega arith) (omega (arith, within))

rest_falls : (x : Timed) (xs : List Timed) → Falls (x ∷ xs) → Falls xs
rest_falls x xs h = λ i j other before within. h (suc i) (suc j) other (omega (arith, before)) (omega (arith, within))

take_falls : (n : ℕ) (xs : List Timed) → Falls xs → Falls (take n xs)
take_falls n xs h = λ i j d before within.
    let small : j < n = omega (arith, within, length-take n xs) in
    rw (get_or-take n xs i d (omega (arith, small, before)), get_or-take n xs j d small) (h i j d before (omega (arith, within, length-take n xs)))

below_all : (n : ℕ) (x : Timed) (xs : List Timed) → x.nanos < n → Falls (x ∷ xs) → All (λ row. row.nanos < n) (x ∷ xs)
below_all n x xs less h =
    All-cons (λ row. row.nanos < n) x xs less
    (All-weaker (IsAfter x) (λ row. row.nanos < n) (λ z le. omega (arith, le, less)) xs (first_falls x xs h))

-- ---- a row at its place

-- the row behind all that took as long
placed : Timed → List Timed → List Timed
placed y [] = y ∷ []
placed y (x ∷ xs) = cond (ltb x.nanos y.nanos) (y ∷ x ∷ xs) (x ∷ placed y xs)

placed_same : (y : Timed) (xs : List Timed) → IsPermutation (y ∷ xs) (placed y xs)
unfolding placed
placed_same y [] = IsPermutation-refl (y ∷ [])
placed_same y (x ∷ xs) = elim (ltb x.nanos y.nanos) as (λ b. IsPermutation (y ∷ x ∷ xs) (cond b (y ∷ x ∷ xs) (x ∷ placed y xs))) [
  | true ↦ IsPermutation-refl (y ∷ x ∷ xs)
  | false ↦
      IsPermutation-trans (y ∷ x ∷ xs) (x ∷ y ∷ xs) (x ∷ placed y xs) (IsPermutation-middle (y ∷ []) x xs)
      (IsPermutation-cons x (y ∷ xs) (placed y xs) (placed_same y xs))
]

placed_falls : (y : Timed) (xs : List Timed) → Falls xs → Falls (placed y xs)
unfolding placed
placed_falls y [] h = AllPairs-cons IsAfter y [] (All-nil (IsAfter y)) h
placed_falls y (x ∷ xs) h = elim (cases_lt x.nanos y.nanos) [
  | inl less ↦ rw (lt-ltb x.nanos y.nanos less)
      (AllPairs-cons IsAfter y (x ∷ xs)
      (All-cons (IsAfter y) x xs (omega (arith, less)) (All-weaker (IsAfter x) (IsAfter y) (λ z le. omega (arith, le, less)) xs (first_falls x xs h))) h)
  | inr le ↦ rw (le-ltb x.nanos y.nanos le)
      (AllPairs-cons IsAfter x (placed y xs)
      (All-permutation (IsAfter x) (y ∷ xs) (placed y xs) (placed_same y xs) (All-cons (IsAfter x) y xs le (first_falls x xs h)))
      (placed_falls y xs (rest_falls x xs h)))
]

-- ---- rows of one time

abbrev of_time : ℕ → List Timed → List Timed
of_time nanos = filter (λ row. nanos == row.nanos)

none_of_time : (nanos : ℕ) (xs : List Timed) → All (λ row. row.nanos < nanos) xs → of_time nanos xs ≡ []
none_of_time nanos [] h = refl
none_of_time nanos (x ∷ xs) h =
    let less : x.nanos < nanos = All-head (λ row. row.nanos < nanos) x xs h in
    rw (ne_eqb nanos x.nanos (λ e. omega (arith, e, less))) (none_of_time nanos xs (All-tail (λ row. row.nanos < nanos) x xs h))

at_an_end : (b : Bool) (y : Timed) (l : List Timed) → (b ≡ true → l ≡ []) → cond b (y ∷ l) l ≡ l ++ cond b (y ∷ []) []
at_an_end true y l h = rw (h refl) refl
at_an_end false y l h = sym (append-nil l)

placed_stays : (nanos : ℕ) (y : Timed) (xs : List Timed) → Falls xs → of_time nanos (placed y xs) ≡ of_time nanos (xs ++ y ∷ [])
unfolding placed
placed_stays nanos y [] h = refl
placed_stays nanos y (x ∷ xs) h = elim (cases_lt x.nanos y.nanos) [
  | inl less ↦ rw (lt-ltb x.nanos y.nanos less)
      (at_an_end (nanos == y.nanos) y (of_time nanos (x ∷ xs)) (λ is. none_of_time nanos (x ∷ xs)
      (below_all nanos x xs (rw (eqb-true nanos y.nanos is) less) h))
      ∙ sym (filter-append (λ row. nanos == row.nanos) (x ∷ xs) (y ∷ [])))
  | inr le ↦ rw (le-ltb x.nanos y.nanos le)
      (ap (λ (l : List Timed). cond (nanos == x.nanos) (x ∷ l) l) (placed_stays nanos y xs (rest_falls x xs h)))
]

-- ---- one order

too_late : (y : Timed) (ys xs : List Timed) → All (λ row. row.nanos < y.nanos) xs → of_time y.nanos xs ≡ of_time y.nanos (y ∷ ys) → ⊥
too_late y ys xs all h =
    let first : of_time y.nanos (y ∷ ys) ≡ y ∷ of_time y.nanos ys = rw (eq-eqb y.nanos y.nanos refl) refl in
    let none = none_of_time y.nanos xs all in
    absurd cc

firsts_same : (b c : Bool) (x y : Timed) (xs ys : List Timed) → b ≡ true → c ≡ true → cond b (x ∷ xs) xs ≡ cond c (y ∷ ys) ys → x ≡ y
firsts_same b c x y xs ys p q h =
    let same : x ∷ xs ≡ y ∷ ys = rw (p, q) at h in
    cc

rests_same : (b c : Bool) (x y : Timed) (xs ys : List Timed) → b ≡ c → cond b (x ∷ xs) xs ≡ cond c (y ∷ ys) ys → xs ≡ ys
rests_same true true x y xs ys e h = cc
rests_same true false x y xs ys e h = absurd cc
rests_same false true x y xs ys e h = absurd cc
rests_same false false x y xs ys e h = h

same_order : (xs ys : List Timed) → Falls xs → Falls ys → ((nanos : ℕ) → of_time nanos xs ≡ of_time nanos ys) → xs ≡ ys
same_order [] [] f g h = refl
same_order [] (y ∷ ys) f g h = absurd (too_late y ys [] (All-nil (λ row. row.nanos < y.nanos)) (h y.nanos))
same_order (x ∷ xs) [] f g h = absurd (too_late x xs [] (All-nil (λ row. row.nanos < x.nanos)) (sym (h x.nanos)))
same_order (x ∷ xs) (y ∷ ys) f g h = elim (cases_lt x.nanos y.nanos) [
  | inl less ↦ absurd (too_late y ys (x ∷ xs) (below_all y.nanos x xs less f) (h y.nanos))
  | inr le ↦ elim (cases_lt y.nanos x.nanos) [
    | inl less ↦ absurd (too_late x xs (y ∷ ys) (below_all x.nanos y ys less g) (sym (h x.nanos)))
    | inr ge ↦
        let same : x.nanos ≡ y.nanos = omega (arith, le, ge) in
        let first = firsts_same _ _ x y _ _ (eq-eqb x.nanos x.nanos refl) (eq-eqb x.nanos y.nanos same) (h x.nanos) in
        ap₂ (λ (z : Timed) l. z ∷ l) first (same_order xs ys (rest_falls x xs f) (rest_falls y ys g)
        (λ nanos. rests_same _ _ x y _ _ (ap (λ n. nanos == n) same) (h nanos)))
  ]
]

-- ---- the first rows

first_again : (n : ℕ) (x : Timed) (xs : List Timed) → take n (x ∷ xs) ≡ take n (x ∷ take n xs)
first_again zero x xs = refl
first_again (suc n) x xs = ap (λ l. x ∷ l) (sym (take-take n (suc n) xs (omega arith)))

take_placed : (n : ℕ) (y : Timed) (xs : List Timed) → take n (placed y xs) ≡ take n (placed y (take n xs))
unfolding placed
take_placed zero y xs = refl
take_placed (suc n) y [] = refl
take_placed (suc n) y (x ∷ xs) =
    elim (ltb x.nanos y.nanos) as (λ b. take (suc n) (cond b (y ∷ x ∷ xs) (x ∷ placed y xs))
    ≡ take (suc n) (cond b (y ∷ x ∷ take n xs) (x ∷ placed y (take n xs)))) [
      | true ↦ ap (λ l. y ∷ l) (first_again n x xs)
      | false ↦ ap (λ l. x ∷ l) (take_placed n y xs)
    ]

-- each of the later rows at its place
all_placed : List Timed → List Timed → List Timed
all_placed ordered [] = ordered
all_placed ordered (y ∷ later) = all_placed (placed y ordered) later

take_all_placed : (n : ℕ) (later xs : List Timed) → take n (all_placed xs later) ≡ take n (all_placed (take n xs) later)
unfolding all_placed
take_all_placed n [] xs = sym (take-take n n xs (omega arith))
take_all_placed n (y ∷ later) xs =
    take_all_placed n later (placed y xs) ∙ ap (λ l. take n (all_placed l later)) (take_placed n y xs)
    ∙ sym (take_all_placed n later (placed y (take n xs)))

-- ---- the slowest

more_first : (xs ordered : List Timed) (y : Timed) → IsSlowestFirst xs ordered → IsSlowestFirst (xs ++ y ∷ []) (placed y ordered)
more_first xs ordered y h = record {
  same = IsPermutation-trans (xs ++ y ∷ []) (y ∷ xs) (placed y ordered) (IsPermutation-to_front xs y)
      (IsPermutation-trans (y ∷ xs) (y ∷ ordered) (placed y ordered) (IsPermutation-cons y xs ordered h.same) (placed_same y ordered));
  falling = placed_falls y ordered h.falling;
  stable = λ nanos. placed_stays nanos y ordered h.falling ∙ filter-append (λ row. nanos == row.nanos) ordered (y ∷ [])
      ∙ ap (λ l. l ++ of_time nanos (y ∷ [])) (h.stable nanos) ∙ sym (filter-append (λ row. nanos == row.nanos) xs (y ∷ []));
}

all_first : (later xs ordered : List Timed) → IsSlowestFirst xs ordered → IsSlowestFirst (xs ++ later) (all_placed ordered later)
unfolding all_placed
all_first [] xs ordered h = subst (λ l. IsSlowestFirst l ordered) (sym (append-nil xs)) h
all_first (y ∷ later) xs ordered h =
    subst (λ l. IsSlowestFirst l (all_placed (placed y ordered) later)) (append_assoc xs (y ∷ []) later)
    (all_first later (xs ++ y ∷ []) (placed y ordered) (more_first xs ordered y h))

front_first : (count : ℕ) (xs ordered : List Timed) → IsSlowestFirst xs ordered → IsSlowestFirst (take count ordered) (take count ordered)
front_first count xs ordered h = record {
  same = IsPermutation-refl (take count ordered);
  falling = take_falls count ordered h.falling;
  stable = λ nanos. refl;
}

-- ---- what is kept

more_kept : (count : ℕ) (rows kept more : List Timed) → IsEnough count rows kept → IsEnough count (rows ++ more) (kept ++ more)
more_kept count rows kept more h = record {
  same = λ later ordered is.
      let all = h.same (more ++ later) ordered (subst (λ l. IsSlowestFirst l ordered) (append_assoc kept more later) is) in
      (all.0, subst (λ l. IsSlowestFirst l all.0) (sym (append_assoc rows more later)) all.1, all.2);
}

-- one more row with a time
pub more_timed : (count : ℕ) (start kept : List Timed) (entries : List Entry) (entry : Entry) (nanos : ℕ) → entry.nanos ≡ Some nanos
    → IsEnough count (start ++ timed_among entries) kept
    → IsEnough count (start ++ timed_among (entries ++ entry ∷ [])) (kept ++ record { label = entry.label; nanos = nanos } ∷ [])
more_timed count start kept entries entry nanos is h =
    let more = flat_map-append timed_in entries (entry ∷ []) ∙ ap (λ n. timed_among entries ++ (timed_with entry.label n ++ [])) is in
    subst (λ l. IsEnough count l (kept ++ record { label = entry.label; nanos = nanos } ∷ []))
    (append_assoc start (timed_among entries) _ ∙ ap (λ l. start ++ l) (sym more)) (more_kept count (start ++ timed_among entries) kept _ h)

pub slowest_kept : (count : ℕ) (rows kept ordered : List Timed) → IsEnough count rows kept → IsSlowestFirst kept ordered
    → IsEnough count rows (take count ordered)
slowest_kept count rows kept ordered h is = record {
  same = λ later found at.
      let few = all_first later (take count ordered) (take count ordered) (front_first count kept ordered is) in
      let one = same_order found (all_placed (take count ordered) later) at.falling few.falling (λ nanos. at.stable nanos ∙ sym (few.stable nanos)) in
      let all = h.same later (all_placed ordered later) (all_first later kept ordered is) in
      (all.0, all.1, all.2 ∙ take_all_placed count later ordered ∙ ap (take count) (sym one));
}

-- the slowest of what is kept are the slowest of all
pub slowest_of_all : (count : ℕ) (rows kept ordered : List Timed) → IsEnough count rows kept → IsSlowestFirst kept ordered
    → (all : List Timed) × IsSlowestFirst rows all × (take count all ≡ take count ordered)
slowest_of_all count rows kept ordered h is =
    let all = h.same [] ordered (subst (λ l. IsSlowestFirst l ordered) (sym (append-nil kept)) is) in
    (all.0, subst (λ l. IsSlowestFirst l all.0) (append-nil rows) all.1, all.2)
