-- The places of rows that workers returned: each comes once, and has the outcome of its row once all rows are put.
use Rattle.std.proofs.Common.{◌≡◌, ◌∙◌, ◌⊎◌, inl, inr, ℕ, ◌+◌, ◌<◌, ◌%◌, ◌==◌, eqb, Bool, true, false, cond, List, [], ◌∷◌, ◌++◌, Some, All, filter, length, map, slice_index_or, slice_set, refl, sym, ap, ap₂, subst, arith}
use Rattle.std.specs.Prelude.{slice_get}
use Rattle.std.specs.List.{Contains, IsDistinct, flat_map, range_with_len}
use Rattle.std.specs.List.Sorted.{IsPermutation}
use Rattle.std.proofs.Math.ListN.{length-set}
use Rattle.std.proofs.lemmas.Bool.Decides.{eqb_tells}
use Rattle.std.proofs.lemmas.Grind.{get_or-set_at}
use Rattle.std.proofs.lemmas.List.{get_or-set_other, map-append}
use Rattle.std.proofs.lemmas.Cmp.{nat_eq_equiv}
use Rattle.std.proofs.lemmas.List.Elements.{All-cons, All-contains, All-nil, Contains-append_right}
use Rattle.std.proofs.lemmas.List.Sorted.{IsPermutation-map, IsPermutation-sym}
use Rattle.std.proofs.lemmas.Map.Keys.{IsDistinct-IsPermutation, IsDistinct-head, IsDistinct-tail}
use Rattle.std.proofs.lemmas.Option.{get_or_from_slice_get, slice_get-get_or, slice_get_within}
use Rattle.mimic_pool.specs.Prelude.{Answers, AnswersSome, Assigned, assigned_from, Gives, HavePlaces, Outcome, Placed, places_of, put_all, put_each, share_of}
use Rattle.mimic_pool.proofs.Joining.{length_put, put_flat}
use Rattle.mimic_pool.proofs.Ordering.{Lacks, distinct_range}

-- ---- which places rows have

module _ {X : Type 0} where
  abbrev pub places_of_items : List (Assigned X) → List ℕ
  places_of_items items = map (λ item. item.place) items

  pub assigned_places : (k : ℕ) (rs : List X) (bs : List Bool) → places_of_items (assigned_from k rs bs) ≡ range_with_len k (length (assigned_from k rs bs))
  assigned_places k [] bs = refl
  assigned_places k (r ∷ rs) [] = refl
  assigned_places k (r ∷ rs) (b ∷ bs) = ap (λ l. k ∷ l) (assigned_places (k + 1) rs bs)

  -- those of a share are the places that leave the worker's number, rising
  pub share_places : (workers worker k : ℕ) (rs : List X) (bs : List Bool)
      → places_of_items (share_of workers worker (assigned_from k rs bs)) ≡ filter (λ place. place % workers == worker) (range_with_len k (length (assigned_from k rs bs)))
  share_places workers worker k [] bs = refl
  share_places workers worker k (r ∷ rs) [] = refl
  share_places workers worker k (r ∷ rs) (b ∷ bs) =
      let item : Assigned X = record { place = k; runner = r; ignored = b } in
      let items = share_of workers worker (assigned_from (k + 1) rs bs) in
      let places = filter (λ place. place % workers == worker) (range_with_len (k + 1) (length (assigned_from (k + 1) rs bs))) in
      let rest = share_places workers worker (k + 1) rs bs in
      elim (k % workers == worker) as (λ t. places_of_items (cond t (item ∷ items) items) ≡ cond t (k ∷ places) places) [
        | true ↦ ap (λ l. k ∷ l) rest
        | false ↦ rest
      ]

module _ {X : Type 0} (gives : Gives X) (mode : Bool) where
  -- rows that answer items have their places
  pub answered_places : (items : List (Assigned X)) (rows : List Placed) → Answers gives mode items rows → places_of rows ≡ places_of_items items
  answered_places [] [] answers = refl
  answered_places [] (row ∷ rows) answers = absurd answers
  answered_places (item ∷ items) [] answers = absurd answers
  answered_places (item ∷ items) (row ∷ rows) answers = ap₂ (λ p l. p ∷ l) answers.0 (answered_places items rows answers.2)

  -- each place is there once, or left
  pub have_places : (rs : List X) (bs : List Bool) (whole : Bool) (joined : List (List Placed)) → AnswersSome gives mode whole (assigned_from 0 rs bs) (flat_map (λ rows. rows) joined)
      → HavePlaces whole (length (assigned_from 0 rs bs)) joined
  have_places rs bs whole joined are =
      let items = assigned_from 0 rs bs in
      let given = are.answered.given in
      let rows = flat_map (λ rows. rows) joined in
      let left = places_of_items are.dropped in
      let same : IsPermutation (places_of_items items) (places_of_items (given ++ are.dropped)) = IsPermutation-map (λ (item : Assigned X). item.place) items (given ++ are.dropped) are.answered.parts in
      let split : places_of_items (given ++ are.dropped) ≡ places_of rows ++ left =
      map-append (λ (item : Assigned X). item.place) given are.dropped ∙ ap (λ l. l ++ left) (sym (answered_places given rows are.answered.answers)) in
      let parts : IsPermutation (places_of_items items) (places_of rows ++ left) = subst (λ l. IsPermutation (places_of_items items) l) split same in
      record {
        left = left;
        once = IsPermutation-sym _ _ (subst (λ l. IsPermutation l (places_of rows ++ left)) (assigned_places 0 rs bs) parts);
        all = λ all. ap (λ (l : List (Assigned X)). places_of_items l) (are.all all);
      }

-- ---- no place comes twice

lacks_front : (x : ℕ) (xs ys : List ℕ) → Lacks x (xs ++ ys) → Lacks x xs
lacks_front x [] ys h = tt
lacks_front x (y ∷ xs) ys h = (h.0, lacks_front x xs ys h.1)

distinct_front : (xs ys : List ℕ) → IsDistinct eqb (xs ++ ys) → IsDistinct eqb xs
unfolding IsDistinct
distinct_front [] ys d = tt
distinct_front (x ∷ xs) ys d = (lacks_front x xs ys d.0, distinct_front xs ys d.1)

places_distinct : (whole : Bool) (count : ℕ) (joined : List (List Placed)) → HavePlaces whole count joined → IsDistinct eqb (places_of (flat_map (λ rows. rows) joined))
places_distinct whole count joined have =
    let places = places_of (flat_map (λ rows. rows) joined) in
    distinct_front places have.left (IsDistinct-IsPermutation eqb nat_eq_equiv.symm (range_with_len 0 count) (places ++ have.left) (IsPermutation-sym _ _ have.once) (distinct_range 0 count))

-- ---- what is at a place once rows are put

put_other : (rows : List Placed) (outs : List Outcome) (p : ℕ) (o : Outcome) → Lacks p (places_of rows) → slice_index_or (put_all rows outs) p o ≡ slice_index_or outs p o
put_other [] outs p o lacks = refl
put_other (row ∷ rows) outs p o lacks =
    elim (eqb_tells p row.0) [
      | inl e ↦ absurd (let both = sym e.0 ∙ lacks.0 in cc)
      | inr e ↦ put_other rows (slice_set outs row.0 row.1) p o lacks.1 ∙ get_or-set_other outs row.0 p row.1 o e.1
    ]

abbrev IsPut : List Outcome → ℕ → Placed → Type 0
IsPut outs count row = row.0 < count → slice_get outs row.0 ≡ Some row.1

-- a row whose place is in no later row is there
first_put : (row : Placed) (rows : List Placed) (outs : List Outcome) → Lacks row.0 (places_of rows) → IsPut (put_all rows (slice_set outs row.0 row.1)) (length outs) row
first_put row rows outs lacks low =
    let here = slice_set outs row.0 row.1 in
    let len = length_put rows here in
    let set = length-set outs row.0 row.1 in
    slice_get-get_or (put_all rows here) row.0 row.1 (omega (arith, low, len, set))
    ∙ ap (λ o. Some o) (put_other rows here row.0 row.1 lacks ∙ get_or-set_at outs row.0 row.0 row.1 row.1 refl low)

-- rows of different places are all there
all_put : (rows : List Placed) (outs : List Outcome) → IsDistinct eqb (places_of rows) → All (IsPut (put_all rows outs) (length outs)) rows
all_put [] outs distinct = All-nil (IsPut outs (length outs))
all_put (row ∷ rows) outs distinct =
    let here = slice_set outs row.0 row.1 in
    let rest = subst (λ (n : ℕ). All (IsPut (put_all rows here) n) rows) (length-set outs row.0 row.1) (all_put rows here (IsDistinct-tail eqb row.0 (places_of rows) distinct)) in
    All-cons (IsPut (put_all rows here) (length outs)) row rows (first_put row rows outs (IsDistinct-head eqb row.0 (places_of rows) distinct)) rest

-- a row that workers returned is at its place
pub row_put : (whole : Bool) (count : ℕ) (joined : List (List Placed)) (outs : List Outcome) (p : ℕ) (o : Outcome) → HavePlaces whole count joined → p < length outs → Contains (flat_map (λ rows. rows) joined) (p, o)
    → slice_get (put_each joined outs) p ≡ Some o
row_put whole count joined outs p o have low has =
    let rows = flat_map (λ rows. rows) joined in
    let put = All-contains (IsPut (put_all rows outs) (length outs)) rows (p, o) (all_put rows outs (places_distinct whole count joined have)) has low in
    ap (λ l. slice_get l p) (put_flat joined outs) ∙ put

put_one : (outs : List Outcome) (q p : ℕ) (v o : Outcome) → slice_get (slice_set outs q v) p ≡ Some o → ((q ≡ p) × (v ≡ o)) ⊎ (slice_get outs p ≡ Some o)
put_one outs q p v o e =
    let all = slice_set outs q v in
    let low : p < length outs = (let within = slice_get_within all p o e in let len = length-set outs q v in omega (arith, within, len)) in
    let is : slice_index_or all p o ≡ o = get_or_from_slice_get all p o o e in
    elim (eqb_tells p q) [
      | inl same ↦ inl (sym same.1, sym (get_or-set_at outs q p v o same.1 (let at = same.1 in omega (arith, low, at))) ∙ is)
      | inr other ↦ inr (slice_get-get_or outs p o low ∙ ap (λ x. Some x) (sym (get_or-set_other outs q p v o other.1) ∙ is))
    ]

put_from : (rows : List Placed) (outs : List Outcome) (p : ℕ) (o : Outcome) → slice_get (put_all rows outs) p ≡ Some o → Contains rows (p, o) ⊎ (slice_get outs p ≡ Some o)
put_from [] outs p o e = inr e
put_from (row ∷ rows) outs p o e =
    elim (put_from rows (slice_set outs row.0 row.1) p o e) [
      | inl has ↦ inl (Contains-append_right (row ∷ []) rows (p, o) has)
      | inr was ↦ elim (put_one outs row.0 p row.1 o was) [
        | inl here ↦ inl (0, omega arith, ap₂ (λ q v. (q, v)) here.0 here.1)
        | inr before ↦ inr before
      ]
    ]

-- what is at a place was returned by a worker, or was there before
pub put_or : (joined : List (List Placed)) (outs : List Outcome) (p : ℕ) (o : Outcome) → slice_get (put_each joined outs) p ≡ Some o → Contains (flat_map (λ rows. rows) joined) (p, o) ⊎ (slice_get outs p ≡ Some o)
put_or joined outs p o e = put_from (flat_map (λ rows. rows) joined) outs p o (ap (λ l. slice_get l p) (sym (put_flat joined outs)) ∙ e)
