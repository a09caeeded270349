-- Items are taken of lists in turn.
use Rattle.std.proofs.Common.{◌≡◌, ◌∙◌, ℕ, suc, ◌+◌, ◌<◌, List, [], ◌∷◌, ◌++◌, Option, Some, None, Result, Ok, Err, ap, append_assoc, append-nil, arith, map, refl, subst, sym}
use Rattle.std.specs.List.{AllZip}
use Rattle.std.proofs.lemmas.Iterator.{YieldsList}
use Rattle.std.proofs.lemmas.List.{map-append}
use Rattle.std.proofs.lemmas.List.Elements.{All-head, All-rest, All-same}
use Rattle.std.specs.Iterator.{AlwaysYields, Count, IsFinite}
use Rattle.std.specs.Global.{Vec}
use Rattle.std.specs.Prelude.{All, IfOk}
use Rattle.mimic_join.specs.Turns.{in_turn}
use Rattle.mimic_events.proofs.Pairs.{each_more}
use Rattle.mimic_join.proofs.Turns.{turn}

-- ---- how many calls are left

module _ {I : Type 0} (size : I → ℕ) where
  -- the items that are left, and one for each list
  abbrev pub left_in : List I → ℕ
  left_in [] = 0
  left_in (list ∷ lists) = suc (size list) + left_in lists

  left_in-push : (lists : List I) (list : I)
      → left_in (lists ++ list ∷ []) ≡ suc (size list) + left_in lists
  left_in-push [] list = refl
  left_in-push (l ∷ lists) list = let e = left_in-push lists list in omega (arith, e)

  pub fewer-lists : (lists others : List I) (list : I) → lists ≡ list ∷ others
      → left_in others < left_in lists
  fewer-lists lists others list front = let e = ap left_in front in omega (arith, e)

  pub fewer-items : (lists others more : List I) (list new : I) → lists ≡ list ∷ others
      → more ≡ others ++ new ∷ [] → size new < size list → left_in more < left_in lists
  fewer-items lists others more list new front back less =
      let e = ap left_in front in
      let f = ap left_in back ∙ left_in-push others new in
      omega (arith, e, f, less)

module _ {I : Type 0} (can : I → Type 0) (left : I → Count) where
  -- the list can be asked for its next item, and ends
  abbrev pub Ends : I → Type 0
  Ends list = can list × IsFinite (left list)

  pub first_ends : (lists others : List I) (list : I) → lists ≡ list ∷ others → All Ends lists
      → Ends list
  first_ends lists others list front ends =
      All-head Ends list others (All-same Ends (list ∷ others) lists (sym front) ends)

  pub others_end : (lists others : List I) (list : I) → lists ≡ list ∷ others → All Ends lists
      → All Ends others
  others_end lists others list front ends = All-rest Ends list others lists front ends

-- ---- what is left of the lists

module _ {I A X : Type 0} (steps : I → Option A → I → Type 0) (view : A → X) where
  -- after these items the lists give what is left of all
  abbrev pub Leave : List I → List A → List (List X) → Type 0
  Leave lists taken all = (left : List (List X)) × AllZip (AlwaysYields steps view) lists left
      × (map view taken ++ in_turn left ≡ in_turn all)

  -- a list that has no more is passed over
  pub pass : (list new : I) (others : List I) (taken : List A) (left all : List (List X))
      → steps list None new → AllZip (AlwaysYields steps view) (list ∷ others) left
      → map view taken ++ in_turn left ≡ in_turn all → Leave others taken all
  pass list new others taken [] all none each e = absurd each
  pass list new others taken ([] ∷ left) all none each e = (left, each.1, e)
  pass list new others taken ((x ∷ xs) ∷ left) all none each e = absurd (each.0.0 new none)

  -- an item comes, and what is left of its list goes behind the others
  pub take : (list new : I) (item : A) (others : List I) (taken : List A) (left all : List (List X))
      → steps list (Some item) new → AllZip (AlwaysYields steps view) (list ∷ others) left
      → map view taken ++ in_turn left ≡ in_turn all
      → Leave (others ++ new ∷ []) (taken ++ item ∷ []) all
  take list new item others taken [] all some each e = absurd each
  take list new item others taken ([] ∷ left) all some each e = absurd (each.0 item new some)
  take list new item others taken ((x ∷ xs) ∷ left) all some each e =
      let next = each.0.1 item new some in
      let after : List X = in_turn (left ++ xs ∷ []) in
      let same : view item ∷ after ≡ in_turn ((x ∷ xs) ∷ left) =
      ap (λ (y : X). y ∷ after) next.0 ∙ sym (turn x xs left) in (
        left ++ xs ∷ [],
        each_more (AlwaysYields steps view) others left new xs each.1 next.1,
        ap (λ (l : List X). l ++ after) (map-append view taken (item ∷ []))
            ∙ (append_assoc (map view taken) (view item ∷ []) after
            ∙ (ap (λ (l : List X). map view taken ++ l) same ∙ e)),
      )

  -- no list is left
  pub all_taken : (taken : List A) (left all : List (List X)) → AllZip (AlwaysYields steps view) [] left
      → map view taken ++ in_turn left ≡ in_turn all → map view taken ≡ in_turn all
  all_taken taken [] all each e = sym (append-nil (map view taken)) ∙ e
  all_taken taken (xs ∷ left) all each e = absurd each

module _ {I A X : Type 0} (steps : I → Option A → I → Type 0) (view : A → X) (rest : I → List X)
    (yields : (list : I) → YieldsList steps view list (rest list)) where
  each_yields : (lists : List I) → AllZip (AlwaysYields steps view) lists (map rest lists)
  each_yields [] = tt
  each_yields (list ∷ lists) = ((yields list).runs, each_yields lists)

  -- iterators that show what is left were taken in turn
  pub turned : {E : Type 0} (result : Result (Vec A) E) (lists : List I) (all : List (List X)) → map rest lists ≡ all
      → IfOk result (λ items. (row_in : A → X) (lists_in : List (List X))
      → AllZip (AlwaysYields steps row_in) lists lists_in → map row_in items.items ≡ in_turn lists_in)
      → IfOk result (λ items. map view items.items ≡ in_turn all)
  turned (Ok items) lists all e h = h view all (subst (AllZip (AlwaysYields steps view) lists) e (each_yields lists))
  turned (Err fault) lists all e h = tt
