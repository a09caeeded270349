-- The shards of all indices have together each item once, and each part of an item once.
use Rattle.std.proofs.Common.{◌≡◌, ◌≢◌, ℕ, zero, suc, ◌+◌, ◌%◌, ◌<◌, ◌≤◌, All, Bool, true, false, cond, eqb, List, [], ◌∷◌, ◌++◌, refl, sym, ap, ap₂, subst, arith, inl, inr, append_assoc}
use Rattle.std.specs.List.{flat_map, range_with_len}
use Rattle.std.specs.Prelude.{IsPermutation}
use Rattle.std.proofs.lemmas.Bool.{cases_eq, cases_lt, eq-eqb, ne_eqb}
use Rattle.std.proofs.lemmas.List.Elements.{All-cons, All-head, All-tail}
use Rattle.std.proofs.lemmas.List.Sorted.{IsPermutation-refl, IsPermutation-trans, IsPermutation-append_comm, IsPermutation-append_left, IsPermutation-append_right}
use Rattle.std.proofs.lemmas.Nat.{mod_below}
use Rattle.mimic_trial.specs.Shard.{ShardsAreAll, shard_from, shard_of}

module _ {X : Type 0} where
  pub to_front : (xs ks ys : List X) → IsPermutation (xs ++ (ks ++ ys)) (ks ++ (xs ++ ys))
  to_front xs ks ys =
      subst (λ (l : List X). IsPermutation l (ks ++ (xs ++ ys))) (append_assoc xs ks ys)
      (subst (λ (l : List X). IsPermutation ((xs ++ ks) ++ ys) l) (append_assoc ks xs ys) (IsPermutation-append_left ys (xs ++ ks) (ks ++ xs) (IsPermutation-append_comm xs ks)))

  same_lists : (f g : ℕ → List X) → ((i : ℕ) → f i ≡ g i) → (is : List ℕ) → flat_map f is ≡ flat_map g is
  same_lists f g h [] = refl
  same_lists f g h (i ∷ is) = ap₂ (λ (x y : List X). x ++ y) (h i) (same_lists f g h is)

  no_lists : (is : List ℕ) → flat_map {A = X} (λ (i : ℕ). []) is ≡ []
  no_lists [] = refl
  no_lists (i ∷ is) = no_lists is

  -- ---- some items that go to one of the lists

  module _ (f : ℕ → List X) (k : ℕ) (ks : List X) where
    apart : (a : ℕ) → a ≤ k → k ≢ a → a + 1 ≤ k
    apart a h ne = elim (cases_lt a k) [ inl lt ↦ omega (arith, lt) | inr le ↦ let e : k ≡ a = omega (arith, h, le) in absurd (ne e) ]

    abbrev pub with_items : ℕ → List X
    with_items i = cond (eqb k i) (ks ++ f i) (f i)

    elsewhere : (a n : ℕ) → k < a → flat_map with_items (range_with_len a n) ≡ flat_map f (range_with_len a n)
    elsewhere a zero h = refl
    elsewhere a (suc n) h = rw (ne_eqb k a (λ e. omega (arith, h, e))) (ap (λ (l : List X). f a ++ l) (elsewhere (a + 1) n (omega (arith, h))))

    here : (a n : ℕ) → k ≡ a → IsPermutation (flat_map with_items (range_with_len a (suc n))) (ks ++ flat_map f (range_with_len a (suc n)))
    here a n e =
        let is : eqb k a ≡ true = eq-eqb k a e in
        let start : flat_map with_items (range_with_len a (suc n)) ≡ ks ++ (f a ++ flat_map f (range_with_len (a + 1) n)) = rw (is, elsewhere (a + 1) n (omega (arith, e))) (append_assoc ks (f a) _) in
        subst (λ (l : List X). IsPermutation l (ks ++ flat_map f (range_with_len a (suc n)))) (sym start) (IsPermutation-refl _)

    later : (a n : ℕ) → k ≢ a → IsPermutation (flat_map with_items (range_with_len (a + 1) n)) (ks ++ flat_map f (range_with_len (a + 1) n))
        → IsPermutation (flat_map with_items (range_with_len a (suc n))) (ks ++ flat_map f (range_with_len a (suc n)))
    later a n ne rest =
        let start : flat_map with_items (range_with_len a (suc n)) ≡ f a ++ flat_map with_items (range_with_len (a + 1) n) = rw (ne_eqb k a ne) refl in
        subst (λ (l : List X). IsPermutation l (ks ++ (f a ++ flat_map f (range_with_len (a + 1) n)))) (sym start)
        (IsPermutation-trans _ _ _ (IsPermutation-append_right (f a) _ _ rest) (to_front (f a) ks (flat_map f (range_with_len (a + 1) n))))

    pub go_once : (a n : ℕ) → a ≤ k → k < a + n → IsPermutation (flat_map with_items (range_with_len a n)) (ks ++ flat_map f (range_with_len a n))
    go_once a zero h lt = absurd (omega (arith, h, lt))
    go_once a (suc n) h lt = elim (cases_eq k a) [ inl e ↦ here a n e | inr ne ↦ later a n ne (go_once (a + 1) n (apart a h ne) (omega (arith, lt))) ]

module _ {X Y : Type 0} (parts : Y → List X) where
  one_part : (b : Bool) (y : Y) (ys : List Y) → flat_map parts (cond b (y ∷ ys) ys) ≡ cond b (parts y ++ flat_map parts ys) (flat_map parts ys)
  one_part true y ys = refl
  one_part false y ys = refl

  parts_from : (count place : ℕ) (ys : List Y) → 0 < count → IsPermutation (flat_map (λ index. flat_map parts (shard_from count place index ys)) (range_with_len 0 count)) (flat_map parts ys)
  parts_from count place [] some = subst (λ (l : List X). IsPermutation l []) (sym (no_lists (range_with_len 0 count))) (IsPermutation-refl [])
  parts_from count place (y ∷ ys) some =
      let below : place % count < count = mod_below place count some in
      let f : ℕ → List X = λ index. flat_map parts (shard_from count (place + 1) index ys) in
      let same = same_lists (λ index. flat_map parts (shard_from count place index (y ∷ ys))) (with_items f (place % count) (parts y)) (λ index. one_part (eqb (place % count) index) y (shard_from count (place + 1) index ys)) (range_with_len 0 count) in
      subst (λ (l : List X). IsPermutation l (parts y ++ flat_map parts ys)) (sym same)
      (IsPermutation-trans _ _ _ (go_once f (place % count) (parts y) 0 count (omega arith) (omega (arith, below))) (IsPermutation-append_right (parts y) _ _ (parts_from count (place + 1) ys some)))

  pub parts_of_shards : (count : ℕ) (ys : List Y) → 0 < count → IsPermutation (flat_map (λ index. flat_map parts (shard_from count 0 index ys)) (range_with_len 0 count)) (flat_map parts ys)
  parts_of_shards count ys some = parts_from count 0 ys some

-- each item is its only part
module _ {X : Type 0} where
  itself : (xs : List X) → flat_map (λ (x : X). x ∷ []) xs ≡ xs
  itself [] = refl
  itself (x ∷ xs) = ap (λ (l : List X). x ∷ l) (itself xs)

  pub shards_are_all : ShardsAreAll X
  shards_are_all count xs some =
      let all = parts_of_shards (λ (x : X). x ∷ []) count xs some in
      let same = same_lists (λ index. flat_map (λ (x : X). x ∷ []) (shard_from count 0 index xs)) (λ index. shard_from count 0 index xs) (λ index. itself (shard_from count 0 index xs)) (range_with_len 0 count) in
      subst (λ (l : List X). IsPermutation l xs) same (subst (IsPermutation _) (itself xs) all)

-- ---- what holds of all elements holds of all in a shard

module _ {A : Type 0} (P : A → Type 0) where
  all_if : (b : Bool) (x : A) (xs : List A) → P x → All P xs → All P (cond b (x ∷ xs) xs)
  all_if true x xs here rest = All-cons P x xs here rest
  all_if false x xs here rest = rest

  all_from : (count place index : ℕ) (xs : List A) → All P xs → All P (shard_from count place index xs)
  all_from count place index [] all = all
  all_from count place index (x ∷ xs) all =
      all_if (eqb (place % count) index) x (shard_from count (place + 1) index xs) (All-head P x xs all) (all_from count (place + 1) index xs (All-tail P x xs all))

  pub all_of_shard : (count index : ℕ) (xs : List A) → All P xs → All P (shard_of count index xs)
  all_of_shard count index xs all = all_from count 0 index xs all
