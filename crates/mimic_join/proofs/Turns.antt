-- Lists in turn.
use Rattle.std.proofs.Common.{◌≡◌, ◌≢◌, ℕ, zero, suc, ◌+◌, ◌-◌, ◌%◌, ◌<◌, ◌≤◌, List, [], ◌∷◌, ◌++◌, length, map, refl, sym, ap, ap₂, ◌∙◌, arith, append_assoc, inl, inr}
use Rattle.std.specs.List.{AllZip, flat_map, range_with_len}
use Rattle.std.specs.Prelude.{IsPermutation}
use Rattle.std.proofs.lemmas.Bool.{cases_lt, eq-eqb, ne_eqb}
use Rattle.std.proofs.lemmas.List.Sorted.{IsPermutation-refl, IsPermutation-trans, IsPermutation-append_right}
use Rattle.std.proofs.lemmas.List.FromFn.{map-range_with_len_more}
use Rattle.std.proofs.lemmas.List.{map-id}
use Rattle.std.proofs.lemmas.List.Concat.{flat_map-append, flat_map_single}
use Rattle.std.proofs.lemmas.Nat.{mod_below}
use Rattle.std.proofs.lemmas.Slice.Zip.{AllZip-long}
use Rattle.std.proofs.Math.Nat.{add-mod_left, add-mod_right, mod-add-mod, mod-eq_of_lt}
use Rattle.mimic_trial.specs.Shard.{shard_from, shard_of}
use Rattle.mimic_join.specs.Turns.{before, rounds_of, in_turn, TurnsAreAll, ShardsInTurn}
use Rattle.mimic_trial.proofs.AllShards.{to_front}

module _ {X : Type 0} where
  abbrev pub joined_rounds : List (List X) → List X
  joined_rounds rounds = flat_map (λ round. round) rounds

  -- ---- a list that comes after the others

  abbrev pub behind : List X → List (List X) → List (List X)
  behind [] rounds = rounds
  behind (x ∷ xs) [] = (x ∷ []) ∷ behind xs []
  behind (x ∷ xs) (round ∷ rounds) = (round ++ x ∷ []) ∷ behind xs rounds

  alone : (xs : List X) → before xs [] ≡ behind xs []
  alone [] = refl
  alone (x ∷ xs) = ap (λ (l : List (List X)). (x ∷ []) ∷ l) (alone xs)

  swap_sides : (xs ys : List X) (rounds : List (List X)) → before xs (behind ys rounds) ≡ behind ys (before xs rounds)
  swap_sides [] ys rounds = refl
  swap_sides (x ∷ xs) [] rounds = refl
  swap_sides (x ∷ xs) (y ∷ ys) [] = ap (λ (l : List (List X)). (x ∷ y ∷ []) ∷ l) (swap_sides xs ys [])
  swap_sides (x ∷ xs) (y ∷ ys) (round ∷ rounds) = ap (λ (l : List (List X)). (x ∷ (round ++ y ∷ [])) ∷ l) (swap_sides xs ys rounds)

  rounds_behind : (xss : List (List X)) (xs : List X) → rounds_of (xss ++ xs ∷ []) ≡ behind xs (rounds_of xss)
  rounds_behind [] xs = alone xs
  rounds_behind (ys ∷ xss) xs = ap (before ys) (rounds_behind xss xs) ∙ swap_sides ys xs (rounds_of xss)

  -- the first item of the first list comes, and what is left of that list goes after the others
  comes_first : (xs : List X) (rounds : List (List X)) → (x : X) → joined_rounds (before (x ∷ xs) rounds) ≡ x ∷ joined_rounds (behind xs rounds)
  comes_first xs [] x = ap (λ (l : List (List X)). x ∷ joined_rounds l) (alone xs)
  comes_first [] (round ∷ rounds) x = refl
  comes_first (y ∷ xs) (round ∷ rounds) x =
      ap (λ (l : List X). x ∷ (round ++ l)) (comes_first xs rounds y) ∙ ap (λ (l : List X). x ∷ l) (sym (append_assoc round (y ∷ []) (joined_rounds (behind xs rounds))))

  pub turn : (x : X) (xs : List X) (xss : List (List X)) → in_turn ((x ∷ xs) ∷ xss) ≡ x ∷ in_turn (xss ++ xs ∷ [])
  turn x xs xss = comes_first xs (rounds_of xss) x ∙ ap (λ (l : List (List X)). x ∷ joined_rounds l) (sym (rounds_behind xss xs))

  -- ---- shards in turn

  no_items : (is : List ℕ) → in_turn {X = X} (map (λ (i : ℕ). []) is) ≡ []
  no_items [] = refl
  no_items (i ∷ is) = no_items is

module _ {Y : Type 0} where
  same_range : (f g : ℕ → Y) (a n : ℕ) → ((j : ℕ) → a ≤ j → j < a + n → f j ≡ g j) → map f (range_with_len a n) ≡ map g (range_with_len a n)
  same_range f g a zero h = refl
  same_range f g a (suc n) h = ap₂ (λ x l. x ∷ l) (h a (omega arith) (omega arith)) (same_range f g (a + 1) n (λ j le lt. h j (omega (arith, le)) (omega (arith, lt))))

  next_range : (f : ℕ → Y) (a n : ℕ) → map f (range_with_len (a + 1) n) ≡ map (λ j. f (j + 1)) (range_with_len a n)
  next_range f a zero = refl
  next_range f a (suc n) = ap (λ l. f (a + 1) ∷ l) (next_range f (a + 1) n)

apart_mod : (p j k : ℕ) → 0 < j → j < k → p % k ≢ (p + j) % k
apart_mod p j k some less e =
    let r : ℕ = p % k in
    let below : r < k = mod_below p k (omega (arith, less)) in
    let moved : (p + j) % k ≡ (r + j) % k = sym (mod-add-mod p k j) in
    elim (cases_lt (r + j) k) [
      | inl lt ↦ let f : (r + j) % k ≡ r + j = mod-eq_of_lt lt in omega (arith, e, moved, f, some)
      | inr le ↦
          let f : (r + j - k) % k ≡ r + j - k = mod-eq_of_lt (omega (arith, below, less)) in
          let g : (k + (r + j - k)) % k ≡ (r + j - k) % k = add-mod_left k (r + j - k) in
          let same : k + (r + j - k) ≡ r + j = omega (arith, le) in
          let h : (r + j) % k ≡ r + j - k = ap (λ n. n % k) (sym same) ∙ (g ∙ f) in
          omega (arith, e, moved, h, less, le)
    ]

module _ {X : Type 0} where
  -- the shards from a place on, that of the first item first
  abbrev pub shards_from : ℕ → ℕ → List X → List (List X)
  shards_from count place xs = map (λ j. shard_from count place ((place + j) % count) xs) (range_with_len 0 count)

  takes : (count place index : ℕ) (x : X) (xs : List X) → place % count ≡ index → shard_from count place index (x ∷ xs) ≡ x ∷ shard_from count (place + 1) index xs
  takes count place index x xs e = rw (eq-eqb (place % count) index e) refl

  passes : (count place index : ℕ) (x : X) (xs : List X) → place % count ≢ index → shard_from count place index (x ∷ xs) ≡ shard_from count (place + 1) index xs
  passes count place index x xs ne = rw (ne_eqb (place % count) index ne) refl

  -- the first item goes to the first shard; what is left is of the shards from the next place on, that first one last
  abbrev pub Step : ℕ → ℕ → X → List X → Type 0
  Step m place x xs = (init : List (List X)) × ((last : List X) × ((shards_from (suc m) place (x ∷ xs) ≡ (x ∷ last) ∷ init) × (shards_from (suc m) (place + 1) xs ≡ init ++ last ∷ [])))

  pub one_step : (m place : ℕ) (x : X) (xs : List X) → Step m place x xs
  one_step m place x xs =
      let n : ℕ = suc m in
      let f : ℕ → List X = λ j. shard_from n place ((place + j) % n) (x ∷ xs) in
      let g : ℕ → List X = λ j. shard_from n (place + 1) ((place + j) % n) xs in
      let h : ℕ → List X = λ j. shard_from n (place + 1) ((place + 1 + j) % n) xs in
      let here : f 0 ≡ x ∷ g 0 = takes n place ((place + 0) % n) x xs (ap (λ k. k % n) (omega arith)) in
      let others : map f (range_with_len 1 m) ≡ map g (range_with_len 1 m) =
      same_range f g 1 m (λ j le lt. passes n place ((place + j) % n) x xs (apart_mod place j n (omega (arith, le)) (omega (arith, lt)))) in
      let moved : map g (range_with_len 1 m) ≡ map h (range_with_len 0 m) =
      next_range g 0 m ∙ same_range (λ j. g (j + 1)) h 0 m (λ j le lt. let e : place + (j + 1) ≡ place + 1 + j = omega arith in ap (λ k. shard_from n (place + 1) (k % n) xs) e) in
      let around : (place + 0) % n ≡ (place + 1 + m) % n = let e : place + 1 + m ≡ place + n = omega arith in let z : place + 0 ≡ place = omega arith in ap (λ k. k % n) z ∙ sym (ap (λ k. k % n) e ∙ add-mod_right place n) in
      let last : g 0 ≡ h m = ap (λ k. shard_from n (place + 1) k xs) around in
      let whole : map h (range_with_len 0 n) ≡ map h (range_with_len 0 m) ++ h m ∷ [] = let e : n ≡ m + 1 = omega arith in ap (λ k. map h (range_with_len 0 k)) e ∙ map-range_with_len_more h 0 m m (omega arith) in
      (map h (range_with_len 0 m), (g 0, (ap₂ (λ l ls. l ∷ ls) here (others ∙ moved), whole ∙ ap (λ l. map h (range_with_len 0 m) ++ l ∷ []) (sym last))))

  one_turn : (m place : ℕ) (x : X) (xs : List X) → in_turn (shards_from (suc m) place (x ∷ xs)) ≡ x ∷ in_turn (shards_from (suc m) (place + 1) xs)
  one_turn m place x xs =
      let s = one_step m place x xs in
      ap in_turn s.1.1.0 ∙ (turn x s.1.0 s.0 ∙ ap (λ ls. x ∷ in_turn ls) (sym s.1.1.1))

  pub turns_from : (count place : ℕ) (xs : List X) → 0 < count → in_turn (shards_from count place xs) ≡ xs
  turns_from count place [] some = no_items (range_with_len 0 count)
  turns_from zero place (x ∷ xs) some = absurd (omega (arith, some))
  turns_from (suc m) place (x ∷ xs) some = one_turn m place x xs ∙ ap (λ l. x ∷ l) (turns_from (suc m) (place + 1) xs some)

  pub from_first : (count : ℕ) (xs : List X) → map (λ index. shard_of count index xs) (range_with_len 0 count) ≡ shards_from count 0 xs
  from_first count xs =
      same_range (λ index. shard_from count 0 index xs) (λ j. shard_from count 0 ((0 + j) % count) xs) 0 count
      (λ j le lt. let e : (0 + j) % count ≡ j = let z : 0 + j ≡ j = omega arith in ap (λ k. k % count) z ∙ mod-eq_of_lt (omega (arith, lt)) in ap (λ k. shard_from count 0 k xs) (sym e))

  pub shards_in_turn : ShardsInTurn X
  shards_in_turn count xs some = ap in_turn (from_first count xs) ∙ turns_from count 0 xs some

-- ---- two lists of lists, in turn, item by item

module _ {A B : Type 0} (R : A → B → Type 0) where
  pub each-append : (xs ws : List A) (ys zs : List B) → AllZip R xs ys → AllZip R ws zs → AllZip R (xs ++ ws) (ys ++ zs)
  each-append [] ws [] zs h k = k
  each-append (x ∷ xs) ws (y ∷ ys) zs h k = (h.0, each-append xs ws ys zs h.1 k)
  each-append xs ws ys zs h k = absurd h

  each-before : (xs : List A) (ys : List B) (rs : List (List A)) (ss : List (List B)) → AllZip R xs ys → AllZip (AllZip R) rs ss → AllZip (AllZip R) (before xs rs) (before ys ss)
  each-before [] [] rs ss h k = k
  each-before (x ∷ xs) (y ∷ ys) [] [] h k = ((h.0, tt), each-before xs ys [] [] h.1 tt)
  each-before (x ∷ xs) (y ∷ ys) (r ∷ rs) (s ∷ ss) h k = ((h.0, k.0), each-before xs ys rs ss h.1 k.1)
  each-before (x ∷ xs) (y ∷ ys) rs ss h k = absurd k
  each-before xs ys rs ss h k = absurd h

  each-rounds : (xss : List (List A)) (yss : List (List B)) → AllZip (AllZip R) xss yss → AllZip (AllZip R) (rounds_of xss) (rounds_of yss)
  each-rounds [] [] h = tt
  each-rounds (xs ∷ xss) (ys ∷ yss) h = each-before xs ys (rounds_of xss) (rounds_of yss) h.0 (each-rounds xss yss h.1)
  each-rounds xss yss h = absurd h

  each-joined : (rs : List (List A)) (ss : List (List B)) → AllZip (AllZip R) rs ss → AllZip R (joined_rounds rs) (joined_rounds ss)
  each-joined [] [] h = tt
  each-joined (r ∷ rs) (s ∷ ss) h = each-append r (joined_rounds rs) s (joined_rounds ss) h.0 (each-joined rs ss h.1)
  each-joined rs ss h = absurd h

  pub each-in_turn : (xss : List (List A)) (yss : List (List B)) → AllZip (AllZip R) xss yss → AllZip R (in_turn xss) (in_turn yss)
  each-in_turn xss yss h = each-joined (rounds_of xss) (rounds_of yss) (each-rounds xss yss h)

  pub each-length : (xs : List A) (ys : List B) → AllZip R xs ys → length xs ≡ length ys
  each-length xs ys h = sym (AllZip-long R xs ys h)

-- ---- parts of items, in turn

module _ {X Y : Type 0} (parts : X → List Y) where
  parts-before : (xs : List X) (rounds : List (List X)) → IsPermutation (flat_map parts (joined_rounds (before xs rounds))) (flat_map parts xs ++ flat_map parts (joined_rounds rounds))
  parts-before [] rounds = IsPermutation-refl (flat_map parts (joined_rounds rounds))
  parts-before (x ∷ xs) [] = simp append_assoc (IsPermutation-append_right (parts x) _ _ (parts-before xs []))
  parts-before (x ∷ xs) (round ∷ rounds) =
      let rest = IsPermutation-append_right (flat_map parts round) _ _ (parts-before xs rounds) in
      let front = to_front (flat_map parts round) (flat_map parts xs) (flat_map parts (joined_rounds rounds)) in
      simp (flat_map-append, append_assoc) (IsPermutation-append_right (parts x) _ _ (IsPermutation-trans _ _ _ rest front))

  pub parts-in_turn : (xss : List (List X)) → IsPermutation (flat_map parts (in_turn xss)) (flat_map parts (flat_map (λ (xs : List X). xs) xss))
  parts-in_turn [] = IsPermutation-refl []
  parts-in_turn (xs ∷ xss) =
      rw (flat_map-append parts xs (flat_map (λ (l : List X). l) xss))
      (IsPermutation-trans _ _ _ (parts-before xs (rounds_of xss)) (IsPermutation-append_right (flat_map parts xs) _ _ (parts-in_turn xss)))

-- each item once
pub turns_are_all : {X : Type 0} → TurnsAreAll X
turns_are_all xss = simp (flat_map_single, map-id) at (parts-in_turn (λ x. x ∷ []) xss)
