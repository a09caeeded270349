-- Distinct places below n, and then the others, are all of them, each once.
use Rattle.std.proofs.Common.{◌≡◌, ◌∙◌, ℕ, suc, zero, ◌+◌, ◌<◌, ◌≤◌, eqb, Bool, true, false, not, ◌||◌, cond, List, [], ◌∷◌, ◌++◌, filter, refl, sym, ap, ap₂, subst, inl, inr, arith}
use Rattle.std.specs.List.{AllByRecursion, list_any, IsDistinct, range_with_len}
use Rattle.std.specs.List.Sorted.{IsPermutation}
use Rattle.std.proofs.lemmas.List.Sorted.{IsPermutation-refl, IsPermutation-cons, IsPermutation-middle, IsPermutation-trans, IsPermutation-sym}
use Rattle.std.proofs.lemmas.Bool.{eq-eqb, eqb-true}
use Rattle.std.proofs.lemmas.Cmp.{nat_eq_equiv}
use Rattle.std.proofs.lemmas.Map.Views.{any-filter_same}
use Rattle.std.proofs.lemmas.Bool.Decides.{eqb_tells}
use Rattle.std.proofs.lemmas.Map.Keys.{IsDistinct-cons, IsDistinct-tail}
use Rattle.mimic_pool.specs.Prelude.{has_come, Placed, places_of}

-- no place of the list is x
abbrev pub Lacks : ℕ → List ℕ → Type 0
Lacks x ys = AllByRecursion (λ y. eqb x y ≡ false) ys

head_lacks : (x : ℕ) (ys : List ℕ) → IsDistinct eqb (x ∷ ys) → Lacks x ys
unfolding IsDistinct
head_lacks x ys d = d.0

-- a list that lacks x is not changed if x is left out
left_out : (x : ℕ) (ys : List ℕ) → Lacks x ys → filter (λ p. not (eqb p x)) ys ≡ ys
left_out x [] h = refl
left_out x (y ∷ ys) h =
    ap (λ b. cond (not b) (y ∷ filter (λ p. not (eqb p x)) ys) (filter (λ p. not (eqb p x)) ys)) (nat_eq_equiv.symm y x ∙ h.0) ∙ ap (λ l. y ∷ l) (left_out x ys h.1)

-- a place that is in a list without doubles, pulled to the front
pub pulled : (x : ℕ) (ys : List ℕ) → IsDistinct eqb ys → list_any (eqb x) ys ≡ true → IsPermutation ys (x ∷ filter (λ p. not (eqb p x)) ys)
pulled x [] d h = absurd (cc)
pulled x (y ∷ ys) d h =
    let F = filter (λ p. not (eqb p x)) ys in
    elim (eqb_tells y x) [
      | inl e ↦
          let lacks : Lacks x ys = subst (λ (k : ℕ). Lacks k ys) e.1 (head_lacks y ys d) in
          let whole : x ∷ cond (not (eqb y x)) (y ∷ F) F ≡ y ∷ ys = ap (λ b. x ∷ cond (not b) (y ∷ F) F) e.0 ∙ ap (λ l. x ∷ l) (left_out x ys lacks) ∙ ap (λ k. k ∷ ys) (sym e.1) in
          let P : List ℕ → Type 0 = λ l. IsPermutation (y ∷ ys) l in
          subst P (sym whole) (IsPermutation-refl (y ∷ ys))
      | inr e ↦
          let other : eqb x y ≡ false = nat_eq_equiv.symm x y ∙ e.0 in
          let rest : list_any (eqb x) ys ≡ true = ap (λ b. b || list_any (eqb x) ys) (sym other) ∙ h in
          let more = IsPermutation-cons y ys (x ∷ F) (pulled x ys (IsDistinct-tail eqb y ys d) rest) in
          let swap = IsPermutation-middle (y ∷ []) x F in
          let P : List ℕ → Type 0 = λ l. IsPermutation (y ∷ ys) (x ∷ l) in
          subst P (ap (λ b. cond (not b) (y ∷ F) F) (sym e.0)) (IsPermutation-trans (y ∷ ys) (y ∷ (x ∷ F)) (x ∷ (y ∷ F)) more swap)
    ]

lacks_filter : (x : ℕ) (t : ℕ → Bool) (ys : List ℕ) → Lacks x ys → Lacks x (filter t ys)
lacks_filter x t [] h = tt
lacks_filter x t (y ∷ ys) h =
    let rest = lacks_filter x t ys h.1 in
    elim (t y) as (λ b. Lacks x (cond b (y ∷ filter t ys) (filter t ys))) [ true ↦ (h.0, rest) | false ↦ rest ]

distinct_filter : (t : ℕ → Bool) (ys : List ℕ) → IsDistinct eqb ys → IsDistinct eqb (filter t ys)
distinct_filter t [] d = d
distinct_filter t (y ∷ ys) d =
    let rest = distinct_filter t ys (IsDistinct-tail eqb y ys d) in
    elim (t y) as (λ b. IsDistinct eqb (cond b (y ∷ filter t ys) (filter t ys))) [ true ↦ IsDistinct-cons eqb y (filter t ys) (lacks_filter y t ys (head_lacks y ys d)) rest | false ↦ rest ]

lacks_range : (x a n : ℕ) → x < a → Lacks x (range_with_len a n)
lacks_range x a zero h = tt
lacks_range x a (suc n) h = ((elim (eqb_tells x a) [ inl e ↦ absurd (let k = e.1 in omega arith) | inr e ↦ e.0 ]), lacks_range x (a + 1) n (omega arith))

pub distinct_range : (a n : ℕ) → IsDistinct eqb (range_with_len a n)
unfolding IsDistinct
distinct_range a zero = tt
distinct_range a (suc n) = (lacks_range a (a + 1) n (omega arith), distinct_range (a + 1) n)

pub in_range : (x a n : ℕ) → a ≤ x → x < a + n → list_any (eqb x) (range_with_len a n) ≡ true
in_range x a zero low high = absurd (omega arith)
in_range x a (suc n) low high = elim (eqb_tells x a) [
  | inl e ↦ ap (λ b. b || list_any (eqb x) (range_with_len (a + 1) n)) e.0
  | inr e ↦ let other = e.1 in ap (λ b. b || list_any (eqb x) (range_with_len (a + 1) n)) e.0 ∙ in_range x (a + 1) n (omega arith) (omega arith)
]

-- one test after another
filter_twice : (xs : List ℕ) (x : ℕ) (ys : List ℕ)
    → filter (λ p. not (list_any (eqb p) xs)) (filter (λ p. not (eqb p x)) ys) ≡ filter (λ p. not (list_any (eqb p) (x ∷ xs))) ys
filter_twice xs x [] = refl
filter_twice xs x (y ∷ ys) =
    let rest = filter_twice xs x ys in
    let F = filter (λ p. not (list_any (eqb p) xs)) (filter (λ p. not (eqb p x)) ys) in
    let G = filter (λ p. not (list_any (eqb p) (x ∷ xs))) ys in
    elim (eqb y x) as (λ b. filter (λ p. not (list_any (eqb p) xs)) (cond (not b) (y ∷ filter (λ p. not (eqb p x)) ys) (filter (λ p. not (eqb p x)) ys)) ≡ cond (not (b || list_any (eqb y) xs)) (y ∷ G) G) [
      | true ↦ rest
      | false ↦ ap (λ l. cond (not (list_any (eqb y) xs)) (y ∷ l) l) rest
    ]

-- a place that is in ys and isn't x is in ys without x, too
still_in : (q x : ℕ) (ys : List ℕ) → eqb q x ≡ false → list_any (eqb q) ys ≡ true → list_any (eqb q) (filter (λ p. not (eqb p x)) ys) ≡ true
still_in q x ys other h = any-filter_same (eqb q) (λ p. not (eqb p x)) true (λ k same. ap (λ r. not (eqb r x)) (sym (eqb-true q k same)) ∙ ap not other) ys ∙ h

pub lacked : (x : ℕ) (ys : List ℕ) → Lacks x ys → list_any (eqb x) ys ≡ false
lacked x [] h = refl
lacked x (y ∷ ys) h = ap (λ b. b || list_any (eqb x) ys) h.0 ∙ lacked x ys h.1

all_kept : (ys : List ℕ) → filter (λ p. not (list_any (eqb p) [])) ys ≡ ys
all_kept [] = refl
all_kept (y ∷ ys) = ap (λ l. y ∷ l) (all_kept ys)

-- places that are all in ys, and then the others of ys
pub split_whole : (xs ys : List ℕ) → IsDistinct eqb xs → IsDistinct eqb ys → ((q : ℕ) → list_any (eqb q) xs ≡ true → list_any (eqb q) ys ≡ true)
    → IsPermutation ys (xs ++ filter (λ p. not (list_any (eqb p) xs)) ys)
split_whole [] ys dx dy within = let P : List ℕ → Type 0 = λ l. IsPermutation ys l in subst P (sym (all_kept ys)) (IsPermutation-refl ys)
split_whole (x ∷ xs) ys dx dy within =
    let ys' = filter (λ p. not (eqb p x)) ys in
    let here : list_any (eqb x) ys ≡ true = within x (ap (λ b. b || list_any (eqb x) xs) (eq-eqb x x refl)) in
    let lacks = head_lacks x xs dx in
    let rest : (q : ℕ) → list_any (eqb q) xs ≡ true → list_any (eqb q) ys' ≡ true = λ q h.
    elim (eqb_tells q x) [
      | inl e ↦ absurd (let none = lacked x xs lacks in let k : list_any (eqb x) xs ≡ true = ap (λ z. list_any (eqb z) xs) (sym e.1) ∙ h in let w = sym k ∙ none in cc)
      | inr e ↦ still_in q x ys e.0 (within q (ap (λ b. b || list_any (eqb q) xs) e.0 ∙ h))
    ] in
    let more = IsPermutation-cons x ys' (xs ++ filter (λ p. not (list_any (eqb p) xs)) ys') (split_whole xs ys' (IsDistinct-tail eqb x xs dx) (distinct_filter _ ys dy) rest) in
    let all = IsPermutation-trans ys (x ∷ ys') (x ∷ (xs ++ filter (λ p. not (list_any (eqb p) xs)) ys')) (pulled x ys dy here) more in
    let P : List ℕ → Type 0 = λ l. IsPermutation ys (x ∷ (xs ++ l)) in
    subst P (filter_twice xs x ys) all

-- the rows have the place exactly if it is among their places
pub has_place : (p : ℕ) (rows : List Placed) → list_any (eqb p) (places_of rows) ≡ has_come p rows
has_place p [] = refl
has_place p (r ∷ rs) = ap (λ t. eqb p r.0 || t) (has_place p rs)

pub filter_same : (f g : ℕ → Bool) → ((p : ℕ) → f p ≡ g p) → (places : List ℕ) → filter f places ≡ filter g places
filter_same f g same [] = refl
filter_same f g same (p ∷ places) = ap₂ (λ t rest. cond t (p ∷ rest) rest) (same p) (filter_same f g same places)

-- the places of rows, if each comes once and is below n, and then the missing ones are all places, each once
pub order_whole : (n : ℕ) (rows : List Placed) (missing : List ℕ) → IsDistinct eqb (places_of rows) → ((p : ℕ) → list_any (eqb p) (places_of rows) ≡ true → p < n)
    → missing ≡ filter (λ p. not (has_come p rows)) (range_with_len 0 n) → IsPermutation (places_of rows ++ missing) (range_with_len 0 n)
order_whole n rows missing distinct below is =
    let all : IsPermutation (range_with_len 0 n) (places_of rows ++ filter (λ p. not (list_any (eqb p) (places_of rows))) (range_with_len 0 n)) =
    split_whole (places_of rows) (range_with_len 0 n) distinct (distinct_range 0 n) (λ q h. let low = below q h in in_range q 0 n (omega arith) (omega arith)) in
    let P : List ℕ → Type 0 = λ l. IsPermutation (places_of rows ++ l) (range_with_len 0 n) in
    subst P (filter_same _ _ (λ p. ap not (has_place p rows)) (range_with_len 0 n) ∙ sym is) (IsPermutation-sym _ _ all)
