-- Which items are left, and where those with a key are.
use Rattle.std.proofs.Common.{◌≡◌, ℕ, suc, ◌<◌, Bool, true, false, cond, List, [], ◌∷◌, ◌++◌, length, map, get_or, set, refl, sym, ap, subst, ◌∙◌, arith, append-nil}
use Rattle.std.specs.Prelude.{None, Some}
use Rattle.std.specs.HashMap.{HashMap, get}
use Rattle.std.specs.declared.collections.VecDeque.{VecDeque}
use Rattle.std.specs.Map.{lookup, remove_entry}
use Rattle.std.proofs.lemmas.List.{map-append}
use Rattle.std.proofs.lemmas.List.Elements.{filter-append}
use Rattle.mimic_events.specs.Key.{Key, is_same, key_read, same_key}
use Rattle.mimic_events.specs.declared.key.Key.{Key as Found}
use Rattle.mimic_events.proofs.Keys.{same_key-decides, same_key-symm}
use Rattle.mimic_expect.specs.KeyedItems.{ArePlaces, left_of, places_at, places_of, queued}
use Rattle.mimic_expect.proofs.Meeting.{keeps}

shifted : (b : Bool) (n : ℕ) → map suc (cond b (n ∷ []) []) ≡ cond b (suc n ∷ []) []
shifted true n = refl
shifted false n = refl

-- a place further on is one behind a place
behind : (places : List ℕ) (q : ℕ) (rest : List ℕ) → map suc places ≡ q ∷ rest → (p : ℕ) × (ps : List ℕ) × (q ≡ suc p) × (places ≡ p ∷ ps)
behind [] q rest e = absurd (cc)
behind (p ∷ ps) q rest e = (p, ps, cc, refl)

empty : (places : List ℕ) → map suc places ≡ [] → places ≡ []
empty [] e = refl
empty (p ∷ places) e = absurd (cc e)

placed : (s c : Bool) (p : ℕ) (old new : List ℕ) → (s ≡ true → c ≡ false) → old ≡ cond s (p ∷ []) [] ++ new
    → cond c (0 ∷ map suc old) (map suc old) ≡ cond s (suc p ∷ []) [] ++ cond c (0 ∷ map suc new) (map suc new)
placed false c p old new apart e = ap (λ l. cond c (0 ∷ map suc l) (map suc l)) e
placed true false p old new apart e = ap (map suc) e
placed true true p old new apart e = absurd (let f = apart refl in cc)

first_of : (s : Bool) (l : List ℕ) → cond s (0 ∷ l) l ≡ cond s (0 ∷ []) [] ++ l
first_of true l = refl
first_of false l = refl

cancel : (s : Bool) (q : ℕ) (a b : List ℕ) → cond s (q ∷ []) [] ++ a ≡ cond s (q ∷ []) [] ++ b → a ≡ b
cancel true q a b e = cc
cancel false q a b e = e

pushed : (b : Bool) (old last : List ℕ) → cond b (0 ∷ (old ++ last)) (old ++ last) ≡ cond b (0 ∷ old) old ++ last
pushed true old last = refl
pushed false old last = refl

module _ {T : Type 0} where
  pub places-push : (key : Key) (items : List (Found × T × Bool)) (own : Found) (item : T)
      → places_of key (items ++ (own, item, true) ∷ []) ≡ places_of key items ++ cond (same_key key (key_read own)) (length items ∷ []) []
  places-push key [] own item = refl
  places-push key ((k, x, false) ∷ items) own item = rw (places-push key items own item, map-append, shifted) refl
  places-push key ((k, x, true) ∷ items) own item =
      rw (places-push key items own item, map-append, shifted) (pushed (same_key key (key_read k)) (map suc (places_of key items)) _)

  pub left-push : (items : List (Found × T × Bool)) (own : Found) (item : T) (b : Bool)
      → left_of (items ++ (own, item, b) ∷ []) ≡ left_of items ++ cond b ((key_read own, item) ∷ []) []
  left-push items own item true = simp (filter-append, map-append)
  left-push items own item false = simp (filter-append, map-append)

  -- ---- none is left with a key

  pub none_left : (key : Key) (items : List (Found × T × Bool)) → places_of key items ≡ [] → lookup (same_key key) (left_of items) ≡ None
  none_left key [] e = refl
  none_left key ((k, x, false) ∷ items) e = none_left key items (empty (places_of key items) e)
  none_left key ((k, x, true) ∷ items) e = grind (arith, none_left key items, empty (places_of key items), e)

  -- ---- the first one left with a key is taken

  abbrev gone : List (Found × T × Bool) → ℕ → Found × T × Bool → List (Found × T × Bool)
  gone items q d = set items q ((get_or items q d).0, (get_or items q d).1, false)

  pub record Taken (key : Key) (q : ℕ) (items : List (Found × T × Bool)) : Type 0 where
    pub within : q < length items
    pub found : (d : Found × T × Bool) → lookup (same_key key) (left_of items) ≡ Some (get_or items q d).1
    pub left : (d : Found × T × Bool) → remove_entry (same_key key) (left_of items) ≡ left_of (gone items q d)
    pub places : (d : Found × T × Bool) (other : Key) → places_of other items ≡ cond (same_key key other) (q ∷ []) [] ++ places_of other (gone items q d)

  skip : (key : Key) (p : ℕ) (k : Found) (x : T) (b : Bool) (items : List (Found × T × Bool)) → (b ≡ true → same_key key (key_read k) ≡ false)
      → Taken key p items → Taken key (suc p) ((k, x, b) ∷ items)
  skip key p k x false items differs t = record {
    within = let h = t.within in omega (arith, h);
    found = t.found;
    left = t.left;
    places = λ d other. placed (same_key key other) false p (places_of other items) (places_of other (gone items p d)) (λ h. refl) (t.places d other);
  }
  skip key p k x true items differs t = record {
    within = let h = t.within in omega (arith, h);
    found = λ d. rw (differs refl) (t.found d);
    left = λ d. rw (differs refl) (ap (λ l. (key_read k, x) ∷ l) (t.left d));
    places = λ d other. placed (same_key key other) (same_key other (key_read k)) p (places_of other items) (places_of other (gone items p d))
        (λ h. ap (λ o. same_key o (key_read k)) (sym ((same_key-decides key other).0 h)) ∙ differs refl) (t.places d other);
  }

  here : (key : Key) (k : Found) (x : T) (items : List (Found × T × Bool)) → same_key key (key_read k) ≡ true → Taken key 0 ((k, x, true) ∷ items)
  here key k x items same = record {
    within = omega arith;
    found = λ d. rw same refl;
    left = λ d. rw same refl;
    places = λ d other. rw (same_key-symm other (key_read k), ← (same_key-decides key (key_read k)).0 same)
        (first_of (same_key key other) (map suc (places_of other items)));
  }

  pub taken : (key : Key) (q : ℕ) (rest : List ℕ) (items : List (Found × T × Bool)) → places_of key items ≡ q ∷ rest → Taken key q items
  taken key q rest [] is = absurd (cc)
  taken key q rest ((k, x, false) ∷ items) is =
      let b = behind (places_of key items) q rest is in
      subst (λ n. Taken key n ((k, x, false) ∷ items)) (sym b.2) (skip key b.0 k x false items (λ h. absurd (cc)) (taken key b.0 b.1 items b.3))
  taken key q rest ((k, x, true) ∷ items) is = at (same_key key (key_read k)) refl (λ p ps. taken key p ps items) is
    where
      at : (b : Bool) → same_key key (key_read k) ≡ b → ((p : ℕ) (ps : List ℕ) → places_of key items ≡ p ∷ ps → Taken key p items)
          → cond b (0 ∷ map suc (places_of key items)) (map suc (places_of key items)) ≡ q ∷ rest → Taken key q ((k, x, true) ∷ items)
      at true same later e = let z : 0 ≡ q = cc in subst (λ n. Taken key n ((k, x, true) ∷ items)) z (here key k x items same)
      at false differs later e =
          let b = behind (places_of key items) q rest e in
          subst (λ n. Taken key n ((k, x, true) ∷ items)) (sym b.2) (skip key b.0 k x true items (λ h. differs) (later b.0 b.1 b.3))

  -- ---- tables

  module _ {S Z : Type 0} (places new : HashMap Found (VecDeque ℕ Z) S) (items : List (Found × T × Bool)) (key : Found) (are : ArePlaces places items) where
    pub none_taken : places_at places key ≡ []
        → (None ≡ lookup (same_key (key_read key)) (left_of items)) × (left_of items ≡ remove_entry (same_key (key_read key)) (left_of items))
    none_taken e =
        let none = none_left (key_read key) items (sym (are key) ∙ e) in
        (sym none, sym (keeps (same_key (key_read key)) (left_of items) none))

    module _ (q : ℕ) (follows : (x : Found) → places_at places x ≡ cond (is_same key x) (q ∷ []) [] ++ places_at new x) where
      pub one_taken : Taken (key_read key) q items
      one_taken =
          let own = (same_key-decides (key_read key) (key_read key)).1 refl in
          taken (key_read key) q (places_at new key) items (sym (are key) ∙ (follows key ∙ ap (λ b. cond b (q ∷ []) [] ++ places_at new key) own))

      pub places_taken : (i : Found × T × Bool) → get_or items q i ≡ i → ArePlaces new (set items q (i.0, i.1, false))
      places_taken i e x =
          rw e at (cancel (is_same key x) q (places_at new x) (places_of (key_read x) (gone items q i)) (sym (follows x) ∙ (are x ∙ one_taken.places i (key_read x))))

-- ---- a place more, or less

module _ {S Z : Type 0} (old new : HashMap Found (VecDeque ℕ Z) S) (key : Found) (place : ℕ) (q w : VecDeque ℕ Z) (is : get is_same old key ≡ Some q) where
  abbrev Writes : Found → Bool → Type 0
  Writes x b = get is_same new x ≡ cond b (Some w) (get is_same old x)

  own_places : (x : Found) → is_same key x ≡ true → places_at old x ≡ q.items
  own_places x same =
      ap (λ k. queued (lookup (λ found. same_key k (key_read found)) old.entries)) (sym ((same_key-decides (key_read key) (key_read x)).0 same)) ∙ ap queued is

  pub place_added : w.items ≡ q.items ++ place ∷ [] → ((x : Found) → Writes x (is_same key x))
      → (x : Found) → places_at new x ≡ places_at old x ++ cond (is_same key x) (place ∷ []) []
  place_added more writes x = at (is_same key x) refl (writes x)
    where
      at : (b : Bool) → is_same key x ≡ b → Writes x b → places_at new x ≡ places_at old x ++ cond b (place ∷ []) []
      at true same e = ap queued e ∙ (more ∙ ap (λ l. l ++ place ∷ []) (sym (own_places x same)))
      at false differs e = ap queued e ∙ sym (append-nil (places_at old x))

  pub place_gone : q.items ≡ place ∷ w.items → ((x : Found) → Writes x (is_same key x))
      → (x : Found) → places_at old x ≡ cond (is_same key x) (place ∷ []) [] ++ places_at new x
  place_gone less writes x = at (is_same key x) refl (writes x)
    where
      at : (b : Bool) → is_same key x ≡ b → Writes x b → places_at old x ≡ cond b (place ∷ []) [] ++ places_at new x
      at true same e = own_places x same ∙ (less ∙ ap (λ l. place ∷ l) (sym (ap queued e)))
      at false differs e = sym (ap queued e)
