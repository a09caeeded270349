-- First arrivals: one more arrival, by case, the places at which nothing came, and outcomes that arrive there.
use Rattle.std.proofs.Common.{◌≡◌, ◌∙◌, ℕ, suc, zero, ◌+◌, ◌<◌, ◌≤◌, nat_lt, eqb, Bool, true, false, not, ◌&&◌, ◌||◌, cond, List, [], ◌∷◌, ◌++◌, filter, refl, sym, ap, ap₂, None, Some, append_assoc, append-nil, inl, inr, arith, drop, length, subst}
use Rattle.std.specs.List.{range_with_len}
use Rattle.std.proofs.lemmas.List.Folds.{list_any-append}
use Rattle.std.proofs.lemmas.Bool.{cases_Bool, eq-eqb, eqb-true, not-false}
use Rattle.std.proofs.lemmas.Bool.Decides.{eqb_tells, nat_tests}
use Rattle.std.specs.Prelude.{slice_get}
use Rattle.std.specs.List.Sorted.{IsPermutation}
use Rattle.std.proofs.Math.Bool.{or-false}
use Rattle.std.proofs.lemmas.List.{map-append}
use Rattle.std.proofs.lemmas.Option.{slice_get-get_or}
use Rattle.mimic_pool.specs.Prelude.{arrival_of, Arrived, arrived_at, first_after, first_arrivals, has_come, missing_of, order_of, Outcome, Placed, placed_at, placed_if, places_of, rows_after}
use Rattle.mimic_trial.specs.declared.outcome.Outcome.TheVariants.{Ignored}
use Rattle.mimic_pool.specs.declared.desk.Arrival.TheVariants.{First, Again, Stranger}

-- ---- one more arrival

-- what one more arrival adds to the first ones
added : ℕ → List Placed → Placed → List Placed
added n earlier a = cond (nat_lt a.0 n && not (has_come a.0 earlier)) (a ∷ []) []

after_more : (n : ℕ) (earlier arrivals : List Placed) (a : Placed) → first_after n earlier (arrivals ++ a ∷ []) ≡ first_after n earlier arrivals ++ added n (earlier ++ arrivals) a
unfolding added
after_more n earlier [] a = ap (λ e. cond (nat_lt a.0 n && not (has_come a.0 e)) (a ∷ []) []) (sym (append-nil earlier))
after_more n earlier (b ∷ arrivals) a =
    let same : added n ((earlier ++ b ∷ []) ++ arrivals) a ≡ added n (earlier ++ b ∷ arrivals) a = ap (λ e. added n e a) (append_assoc earlier (b ∷ []) arrivals) in
    let F = first_after n (earlier ++ b ∷ []) arrivals in
    let F' = first_after n (earlier ++ b ∷ []) (arrivals ++ a ∷ []) in
    let rest : F' ≡ F ++ added n (earlier ++ b ∷ arrivals) a = after_more n (earlier ++ b ∷ []) arrivals a ∙ ap (λ o. F ++ o) same in
    let P : Bool → Type 0 = λ t. cond t (b ∷ F') F' ≡ cond t (b ∷ F) F ++ added n (earlier ++ b ∷ arrivals) a in
    elim (nat_lt b.0 n && not (has_come b.0 earlier)) as P [ true ↦ ap (λ rows. b ∷ rows) rest | false ↦ rest ]

or_assoc : (a b c : Bool) → ((a || (b || false)) || c) ≡ (a || (b || c))
or_assoc true b c = refl
or_assoc false true c = refl
or_assoc false false c = refl

skipped : (h e f : Bool) → (e ≡ true → h ≡ true) → (h || f) ≡ (h || (e || f))
skipped true e f k = refl
skipped false true f k = absurd (let no = k refl in cc)
skipped false false f k = refl

-- an arrival below n that is no first one came before
came_before : (n p : ℕ) (a : Placed) (earlier : List Placed) → nat_lt p n ≡ true → (nat_lt a.0 n && not (has_come a.0 earlier)) ≡ false → eqb p a.0 ≡ true → has_come p earlier ≡ true
came_before n p a earlier low out here =
    let e : p ≡ a.0 = eqb-true p a.0 here in
    let low' : nat_lt a.0 n ≡ true = ap (λ q. nat_lt q n) (sym e) ∙ low in
    let has : has_come a.0 earlier ≡ true = not-false (has_come a.0 earlier) (ap (λ t. t && not (has_come a.0 earlier)) (sym low') ∙ out) in
    ap (λ q. has_come q earlier) e ∙ has

-- a place below n is among the first arrivals exactly if it is among the arrivals
after_has : (n p : ℕ) (earlier arrivals : List Placed) → nat_lt p n ≡ true
    → (has_come p earlier || has_come p (first_after n earlier arrivals)) ≡ (has_come p earlier || has_come p arrivals)
after_has n p earlier [] low = refl
after_has n p earlier (a ∷ arrivals) low =
    let E = has_come p earlier in
    let F = first_after n (earlier ++ a ∷ []) arrivals in
    let split : has_come p (earlier ++ a ∷ []) ≡ (E || (eqb p a.0 || false)) = list_any-append (λ r. eqb p r.0) earlier (a ∷ []) in
    let all : (E || (eqb p a.0 || has_come p F)) ≡ (E || (eqb p a.0 || has_come p arrivals)) =
    sym (or_assoc E (eqb p a.0) (has_come p F)) ∙ (ap (λ h. h || has_come p F) (sym split) ∙ (after_has n p (earlier ++ a ∷ []) arrivals low
    ∙ (ap (λ h. h || has_come p arrivals) split ∙ or_assoc E (eqb p a.0) (has_come p arrivals)))) in
    elim (cases_Bool (nat_lt a.0 n && not (has_come a.0 earlier))) [
      | inl t ↦ ap (λ b. E || has_come p (cond b (a ∷ F) F)) t ∙ all
      | inr f ↦ ap (λ b. E || has_come p (cond b (a ∷ F) F)) f ∙ (skipped E (eqb p a.0) (has_come p F) (came_before n p a earlier low f) ∙ all)
    ]

joined : (b : Bool) (rows : List Placed) (a : Placed) → rows ++ cond b (a ∷ []) [] ≡ cond b (rows ++ a ∷ []) rows
joined true rows a = refl
joined false rows a = append-nil rows

-- the first arrivals after one more
pub first_more : (n : ℕ) (arrivals : List Placed) (a : Placed) → first_arrivals n (arrivals ++ a ∷ []) ≡ rows_after n (first_arrivals n arrivals) a
unfolding added
first_more n arrivals a =
    let F = first_arrivals n arrivals in
    after_more n [] arrivals a ∙ elim (cases_Bool (nat_lt a.0 n)) [
      | inl t ↦ ap (λ h. F ++ cond (nat_lt a.0 n && not h) (a ∷ []) []) (sym (after_has n a.0 [] arrivals t)) ∙ joined (nat_lt a.0 n && not (has_come a.0 F)) F a
      | inr f ↦ ap (λ b. F ++ cond (b && not (has_come a.0 arrivals)) (a ∷ []) []) f ∙ (append-nil F ∙ ap (λ b. cond (b && not (has_come a.0 F)) (F ++ a ∷ []) F) (sym f))
    ]

-- rows that take one more arrival are the first ones of one more arrival
pub history_more : (n : ℕ) (old new : List Placed) (a : Placed) → new ≡ rows_after n old a
    → (arrivals : List Placed) → old ≡ first_arrivals n arrivals → new ≡ first_arrivals n (arrivals ++ a ∷ [])
history_more n old new a kept arrivals was = kept ∙ (ap (λ rows. rows_after n rows a) was ∙ sym (first_more n arrivals a))

-- ---- what an arrival does, by case

module _ (d : Arrived) (a : Placed) where
  low_test : (t : Bool) → nat_lt a.0 d.places ≡ t → cond (t && not (has_come a.0 d.rows)) (d.rows ++ a ∷ []) d.rows ≡ rows_after d.places d.rows a
  low_test t e = ap (λ b. cond (b && not (has_come a.0 d.rows)) (d.rows ++ a ∷ []) d.rows) (sym e)

  pub stranger_kept : d.places ≤ a.0 → d.rows ≡ rows_after d.places d.rows a
  stranger_kept high = low_test false (grind (arith, nat_tests))

  come_test : (h : Bool) → a.0 < d.places → has_come a.0 d.rows ≡ h → cond (not h) (d.rows ++ a ∷ []) d.rows ≡ rows_after d.places d.rows a
  come_test h low e = ap (λ b. cond (not b) (d.rows ++ a ∷ []) d.rows) (sym e) ∙ low_test true (grind (arith, nat_tests))

  pub again_kept : a.0 < d.places → has_come a.0 d.rows ≡ true → d.rows ≡ rows_after d.places d.rows a
  again_kept low has = come_test true low has

  pub first_kept : a.0 < d.places → has_come a.0 d.rows ≡ false → d.rows ++ a ∷ [] ≡ rows_after d.places d.rows a
  first_kept low none = come_test false low none

pub said : (d : Arrived) (p : ℕ) (h : Bool) → p < d.places → has_come p d.rows ≡ h → cond h Again First ≡ arrival_of d p
said d p h low e =
    let yes : nat_lt p d.places ≡ true = grind (arith, nat_tests) in
    ap (λ b. cond b Again First) (sym e) ∙ ap (λ t. cond t (cond (has_come p d.rows) Again First) Stranger) (sym yes)

-- ---- what arrived last

arrived_behind : (rows : List Placed) (p : ℕ) (o : Outcome) → has_come p rows ≡ false → arrived_at p (rows ++ (p, o) ∷ []) ≡ Some o
arrived_behind [] p o none = ap (λ t. cond t (Some o) None) (eq-eqb p p refl)
arrived_behind (row ∷ rows) p o none =
    elim (eqb_tells p row.0) [
      | inl e ↦ absurd (let both = ap (λ t. t || has_come p rows) (sym e.0) ∙ none in cc)
      | inr e ↦
          ap (λ t. cond t (Some row.1) (arrived_at p (rows ++ (p, o) ∷ []))) e.0
          ∙ arrived_behind rows p o (ap (λ t. t || has_come p rows) (sym e.0) ∙ none)
    ]

-- after a first arrival its outcome is at its place
pub first_arrived : (desk : Arrived) (place : ℕ) (o : Outcome) → arrival_of desk place ≡ First → arrived_at place (rows_after desk.places desk.rows (place, o)) ≡ Some o
first_arrived desk place o first = elim (cases_Bool (nat_lt place desk.places)) [
  | inr f ↦ absurd (let no = sym first ∙ ap (λ t. cond t (cond (has_come place desk.rows) Again First) Stranger) f in cc)
  | inl t ↦ elim (cases_Bool (has_come place desk.rows)) [
    | inl h ↦ absurd (let no = sym first ∙ ap₂ (λ t h. cond t (cond h Again First) Stranger) t h in cc)
    | inr n ↦
        ap (λ b. arrived_at place (cond b (desk.rows ++ (place, o) ∷ []) desk.rows)) (ap₂ (λ t h. t && not h) t n)
        ∙ arrived_behind desk.rows place o n
  ]
]

-- ---- the places at which nothing came

missing_same : (n : ℕ) (arrivals : List Placed) (from len : ℕ) → from + len ≤ n
    → filter (λ p. not (has_come p (first_arrivals n arrivals))) (range_with_len from len) ≡ filter (λ p. not (has_come p arrivals)) (range_with_len from len)
missing_same n arrivals from zero low = refl
missing_same n arrivals from (suc len) low =
    let here : nat_lt from n ≡ true = grind (arith, nat_tests) in
    let rest = filter (λ p. not (has_come p (first_arrivals n arrivals))) (range_with_len (from + 1) len) in
    ap (λ b. cond (not b) (from ∷ rest) rest) (after_has n from [] arrivals here)
    ∙ ap (λ l. cond (not (has_come from arrivals)) (from ∷ l) l) (missing_same n arrivals (from + 1) len (omega arith))

-- the places of the first arrivals, and then those at which nothing came, are the order of the arrivals
pub order_same : (n : ℕ) (rows : List Placed) (missing : List ℕ) → missing ≡ filter (λ p. not (has_come p rows)) (range_with_len 0 n)
    → (arrivals : List Placed) → rows ≡ first_arrivals n arrivals → places_of rows ++ missing ≡ order_of n arrivals
order_same n rows missing is arrivals was =
    ap (λ m. places_of rows ++ m) is
    ∙ (ap (λ r. places_of r ++ filter (λ p. not (has_come p r)) (range_with_len 0 n)) was
    ∙ ap (λ m. places_of (first_arrivals n arrivals) ++ m) (missing_same n arrivals 0 n (omega arith)))

-- of `count` places from this one on, those at which nothing came
abbrev pub missing_from : ℕ → ℕ → List Placed → List ℕ
missing_from place count rows = filter (λ p. not (has_come p rows)) (range_with_len place count)

pub first_left : (outcomes : List Outcome) (place : ℕ) (o : Outcome) (left : List Outcome) → o ∷ left ≡ drop place outcomes
    → (slice_get outcomes place ≡ Some o) × (left ≡ drop (place + 1) outcomes)
first_left [] zero o left e = absurd (cc)
first_left [] (suc place) o left e = absurd (cc)
first_left (x ∷ outcomes) zero o left e = ((cc), (cc))
first_left (x ∷ outcomes) (suc place) o left e =
    let rest = first_left outcomes place o left e in
    let next : suc (place + 1) ≡ suc place + 1 = omega arith in
    (rest.0, rest.1 ∙ ap (λ n. drop n (x ∷ outcomes)) next)

-- an arrival at a lower place
missing_after : (place count low : ℕ) (o : Outcome) (rows : List Placed) → low < place → missing_from place count (rows ++ (low, o) ∷ []) ≡ missing_from place count rows
missing_after place zero low o rows lower = refl
missing_after place (suc count) low o rows lower =
    let rest = missing_after (place + 1) count low o rows (omega arith) in
    let other : eqb place low ≡ false = elim (eqb_tells place low) [ inl e ↦ absurd (let k = e.1 in omega arith) | inr e ↦ e.0 ] in
    let same : has_come place (rows ++ (low, o) ∷ []) ≡ has_come place rows =
    list_any-append (λ a. eqb place a.0) rows ((low, o) ∷ []) ∙ (ap (λ t. has_come place rows || (t || false)) other ∙ or-false (has_come place rows)) in
    ap (λ t. cond (not t) (place ∷ missing_from (place + 1) count (rows ++ (low, o) ∷ [])) (missing_from (place + 1) count (rows ++ (low, o) ∷ []))) same
    ∙ ap (λ l. cond (not (has_come place rows)) (place ∷ l) l) rest

module _ (desk : Arrived) (outcomes : List Outcome) (place count : ℕ) (o : Outcome) (low : place < desk.places) (at : slice_get outcomes place ≡ Some o) where
  next_come : (t : Bool) → has_come place desk.rows ≡ t
      → rows_after desk.places desk.rows (place, o) ++ placed_at (missing_from (place + 1) count (rows_after desk.places desk.rows (place, o))) outcomes
      ≡ desk.rows ++ placed_at (cond (not t) (place ∷ missing_from (place + 1) count desk.rows) (missing_from (place + 1) count desk.rows)) outcomes
  next_come true come = ap (λ rows. rows ++ placed_at (missing_from (place + 1) count rows) outcomes) (sym (again_kept desk (place, o) low come))
  next_come false come =
      let after = desk.rows ++ (place, o) ∷ [] in
      ap (λ rows. rows ++ placed_at (missing_from (place + 1) count rows) outcomes) (sym (first_kept desk (place, o) low come))
      ∙ (ap (λ l. after ++ placed_at l outcomes) (missing_after (place + 1) count place o desk.rows (omega arith))
      ∙ (append_assoc desk.rows ((place, o) ∷ []) (placed_at (missing_from (place + 1) count desk.rows) outcomes)
      ∙ ap (λ here. desk.rows ++ (placed_if place here ++ placed_at (missing_from (place + 1) count desk.rows) outcomes)) (sym at)))

  -- the outcome of the next place has arrived, if nothing had before
  pub next_arrived : rows_after desk.places desk.rows (place, o) ++ placed_at (missing_from (place + 1) count (rows_after desk.places desk.rows (place, o))) outcomes
      ≡ desk.rows ++ placed_at (missing_from place (suc count) desk.rows) outcomes
  next_arrived = next_come (has_come place desk.rows) refl

-- each place that is missing has an outcome
missing_placed : (outcomes : List Outcome) (rows : List Placed) (place count : ℕ) → place + count ≤ length outcomes
    → places_of (placed_at (missing_from place count rows) outcomes) ≡ missing_from place count rows
missing_placed outcomes rows place zero low = refl
missing_placed outcomes rows place (suc count) low =
    let rest = missing_from (place + 1) count rows in
    let are = missing_placed outcomes rows (place + 1) count (omega arith) in
    let found = slice_get-get_or outcomes place Ignored (omega arith) in
    let here = ap (λ o. places_of (placed_if place o ++ placed_at rest outcomes)) found ∙ ap (λ l. place ∷ l) are in
    elim (has_come place rows) as (λ t. places_of (placed_at (cond (not t) (place ∷ rest) rest) outcomes) ≡ cond (not t) (place ∷ rest) rest) [ true ↦ are | false ↦ here ]

-- the places of a desk at which nothing is missing any more are all places, each once
pub arrived_whole : (old new : Arrived) (outcomes : List Outcome) → length outcomes ≡ old.places → new.places ≡ old.places
    → new.rows ≡ old.rows ++ placed_at (missing_of old) outcomes → IsPermutation (places_of old.rows ++ missing_of old) (range_with_len 0 old.places)
    → IsPermutation (places_of new.rows) (range_with_len 0 new.places)
arrived_whole old new outcomes each places rows whole =
    let came : places_of new.rows ≡ places_of old.rows ++ missing_of old =
    ap places_of rows ∙ (map-append (λ r. r.0) old.rows (placed_at (missing_of old) outcomes)
    ∙ ap (λ l. places_of old.rows ++ l) (missing_placed outcomes old.rows 0 old.places (omega arith))) in
    let P : List ℕ → ℕ → Type 0 = λ l n. IsPermutation l (range_with_len 0 n) in
    subst (λ (n : ℕ). P (places_of new.rows) n) (sym places) (subst (λ (l : List ℕ). P l old.places) (sym came) whole)
