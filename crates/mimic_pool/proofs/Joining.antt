-- What the joined outcomes are: at each place one of the item there.
use Rattle.std.proofs.Common.{◌≡◌, ◌⊎◌, inl, inr, ℕ, suc, zero, ◌+◌, ◌<◌, Bool, true, List, [], ◌∷◌, ◌++◌, length, slice_index_or, slice_set, refl, sym, ◌∙◌, ap, append-nil, subst, arith}
use Rattle.std.specs.List.{AllByRecursion, Contains, flat_map}
use Rattle.std.specs.List.Sorted.{IsPermutation}
use Rattle.std.proofs.lemmas.List.Sorted.{All-permutation, Contains-permutation}
use Rattle.std.proofs.lemmas.List.Elements.{All-from_recursion, recursion_from_All}
use Rattle.std.proofs.lemmas.Grind.{get_or-set_at}
use Rattle.std.proofs.lemmas.List.{get_or_default, get_or-set_other}
use Rattle.std.proofs.lemmas.Bool.Decides.{eqb_tells}
use Rattle.std.proofs.Math.ListN.{length-set}
use Rattle.mimic_pool.specs.Prelude.{Answers, AnswersPart, AnswersSome, AreOutcomes, Assigned, assigned_from, Gives, IsOutcomeAt, IsOutcomeOf, Outcome, Placed, put_all, put_each}

module _ {X : Type 0} where
  -- the item is the one at its place
  abbrev pub IsPlaced : List (Assigned X) → Assigned X → Type 0
  IsPlaced items x = (x.place < length items) × ((d : Assigned X) → slice_index_or items x.place d ≡ x)

  abbrev pub ArePlaced : List (Assigned X) → List (Assigned X) → Type 0
  ArePlaced items xs = AllByRecursion (IsPlaced items) xs

  -- some item has the place
  abbrev pub HasPlace : ℕ → List (Assigned X) → Type 0
  HasPlace p [] = ⊥
  HasPlace p (x ∷ xs) = (x.place ≡ p) ⊎ HasPlace p xs

  pub assigned_place : (k p : ℕ) (rs : List X) (bs : List Bool) (d : Assigned X) → p < length (assigned_from k rs bs) → (slice_index_or (assigned_from k rs bs) p d).place ≡ k + p
  assigned_place k p [] bs d low = absurd (omega arith)
  assigned_place k p (r ∷ rs) [] d low = absurd (omega arith)
  assigned_place k zero (r ∷ rs) (b ∷ bs) d low = omega arith
  assigned_place k (suc p) (r ∷ rs) (b ∷ bs) d low =
      let h = assigned_place (k + 1) p rs bs d (omega arith) in omega arith

  pub placed_whole : (rs : List X) (bs : List Bool) → let items = assigned_from 0 rs bs in ArePlaced items items
  placed_whole rs bs =
      let items = assigned_from 0 rs bs in
      recursion_from_All (IsPlaced items) items (λ k d low.
      let e : (slice_index_or items k d).place ≡ k = assigned_place 0 k rs bs d low ∙ omega arith in
      (omega arith, λ c. ap (λ p. slice_index_or items p c) e ∙ get_or_default items k c d low))

  pub has_from_index : (p k : ℕ) (xs : List (Assigned X)) (d : Assigned X) → k < length xs → (slice_index_or xs k d).place ≡ p → HasPlace p xs
  has_from_index p k [] d low e = absurd (omega arith)
  has_from_index p zero (x ∷ xs) d low e = inl e
  has_from_index p (suc k) (x ∷ xs) d low e = inr (has_from_index p k xs d (omega arith) e)

pub length_put : (rows : List Placed) (outs : List Outcome) → length (put_all rows outs) ≡ length outs
length_put [] outs = refl
length_put (r ∷ rs) outs = length_put rs (slice_set outs r.0 r.1) ∙ length-set outs r.0 r.1

module _ {X : Type 0} (gives : Gives X) where
  own_here : (mode : Bool) (items : List (Assigned X)) (x : Assigned X) (r : Placed) (outs : List Outcome) (p : ℕ) → length outs ≡ length items
      → IsPlaced items x → r.0 ≡ x.place → IsOutcomeOf gives x.ignored x.runner mode r.1 → x.place ≡ p → IsOutcomeAt gives mode items (slice_set outs r.0 r.1) p
  own_here mode items x r outs p len placed at own here = λ a o.
      let set : slice_index_or (slice_set outs r.0 r.1) p o ≡ r.1 = get_or-set_at outs r.0 p r.1 o (sym here ∙ sym at) (let b = placed.0 in omega arith) in
      let item : slice_index_or items p a ≡ x = ap (λ q. slice_index_or items q a) (sym here) ∙ placed.1 a in
      let P : Assigned X → Type 0 = λ y. IsOutcomeOf gives y.ignored y.runner mode (slice_index_or (slice_set outs r.0 r.1) p o) in
      let Q : Outcome → Type 0 = λ v. IsOutcomeOf gives x.ignored x.runner mode v in
      subst P (sym item) (subst Q (sym set) own)

  -- the place of an item that is answered, or one that was own already, is own
  own_set : (mode : Bool) (items : List (Assigned X)) (x : Assigned X) (r : Placed) (outs : List Outcome) (p : ℕ) → length outs ≡ length items
      → IsPlaced items x → r.0 ≡ x.place → IsOutcomeOf gives x.ignored x.runner mode r.1
      → IsOutcomeAt gives mode items outs p → IsOutcomeAt gives mode items (slice_set outs r.0 r.1) p
  own_set mode items x r outs p len placed at own was = λ a o.
      elim (eqb_tells p r.0) [
        | inl e ↦ own_here mode items x r outs p len placed at own (sym at ∙ sym e.1) a o
        | inr e ↦
            let Q : Outcome → Type 0 = λ v. IsOutcomeOf gives (slice_index_or items p a).ignored (slice_index_or items p a).runner mode v in
            subst Q (sym (get_or-set_other outs r.0 p r.1 o e.1)) (was a o)
      ]

  own_put : (mode : Bool) (items xs : List (Assigned X)) (rows : List Placed) (outs : List Outcome) (p : ℕ) → length outs ≡ length items
      → ArePlaced items xs → Answers gives mode xs rows → HasPlace p xs ⊎ IsOutcomeAt gives mode items outs p → IsOutcomeAt gives mode items (put_all rows outs) p
  own_put mode items [] [] outs p len placed all (inl h) = absurd h
  own_put mode items [] [] outs p len placed all (inr h) = h
  own_put mode items [] (r ∷ rs) outs p len placed all h = absurd all
  own_put mode items (x ∷ xs) [] outs p len placed all h = absurd all
  own_put mode items (x ∷ xs) (r ∷ rs) outs p len placed all (inl (inl h)) =
      own_put mode items xs rs (slice_set outs r.0 r.1) p (length-set outs r.0 r.1 ∙ len) placed.1 all.2 (inr (own_here mode items x r outs p len placed.0 all.0 all.1 h))
  own_put mode items (x ∷ xs) (r ∷ rs) outs p len placed all (inl (inr h)) =
      own_put mode items xs rs (slice_set outs r.0 r.1) p (length-set outs r.0 r.1 ∙ len) placed.1 all.2 (inl h)
  own_put mode items (x ∷ xs) (r ∷ rs) outs p len placed all (inr h) =
      own_put mode items xs rs (slice_set outs r.0 r.1) p (length-set outs r.0 r.1 ∙ len) placed.1 all.2 (inr (own_set mode items x r outs p len placed.0 all.0 all.1 h))

put_both : (rows more : List Placed) (outcomes : List Outcome) → put_all (rows ++ more) outcomes ≡ put_all more (put_all rows outcomes)
put_both [] more outcomes = refl
put_both (row ∷ rows) more outcomes = put_both rows more _

-- the rows of each worker, one worker's after another's, are one list of rows
pub put_flat : (joined : List (List Placed)) (outcomes : List Outcome) → put_each joined outcomes ≡ put_all (flat_map (λ rows. rows) joined) outcomes
put_flat [] outcomes = refl
put_flat (rows ∷ joined) outcomes = put_flat joined (put_all rows outcomes) ∙ sym (put_both rows (flat_map (λ rows. rows) joined) outcomes)

pub length_put_each : (joined : List (List Placed)) (outcomes : List Outcome) → length (put_each joined outcomes) ≡ length outcomes
length_put_each [] outcomes = refl
length_put_each (rows ∷ joined) outcomes = length_put_each joined (put_all rows outcomes) ∙ length_put rows outcomes

module _ {X : Type 0} where
  first_placed : (items given dropped : List (Assigned X)) → ArePlaced items (given ++ dropped) → ArePlaced items given
  first_placed items [] dropped placed = tt
  first_placed items (x ∷ given) dropped placed = (placed.0, first_placed items given dropped placed.1)

  -- what has a place in one order has it in another
  has_taken : (items taken : List (Assigned X)) (p : ℕ) → IsPermutation items taken → p < length items → ((d : Assigned X) → (slice_index_or items p d).place ≡ p) → HasPlace p taken
  has_taken [] taken p same low at = absurd (omega arith)
  has_taken (y ∷ ys) taken p same low at =
      let x : Assigned X = slice_index_or (y ∷ ys) p y in
      let there : Contains (y ∷ ys) x = (p, low, get_or_default (y ∷ ys) p x y low) in
      let here : Contains taken x = Contains-permutation (y ∷ ys) taken x same there in
      has_from_index p here.0 taken x here.1 (ap (λ (a : Assigned X). a.place) here.2 ∙ at y)

module _ {X : Type 0} (gives : Gives X) (mode : Bool) (rs : List X) (bs : List Bool) where
  -- if no trial was dropped, each place has an own outcome once the rows of all workers are put at their places
  pub joined_own : (joined : List (List Placed)) (outcomes : List Outcome) → AnswersPart gives mode (assigned_from 0 rs bs) [] (flat_map (λ rows. rows) joined)
      → length outcomes ≡ length (assigned_from 0 rs bs) → AreOutcomes gives mode (assigned_from 0 rs bs) (put_each joined outcomes)
  joined_own joined outcomes part len =
      let items = assigned_from 0 rs bs in
      let rows = flat_map (λ rows. rows) joined in
      let same : IsPermutation items part.given = subst (λ l. IsPermutation items l) (append-nil part.given) part.parts in
      let placed : ArePlaced items part.given = recursion_from_All (IsPlaced items) part.given (All-permutation (IsPlaced items) items part.given same (All-from_recursion (IsPlaced items) items (placed_whole rs bs))) in
      let all : AreOutcomes gives mode items (put_all rows outcomes) = (
        length_put rows outcomes ∙ len,
        λ p low. own_put gives mode items part.given rows outcomes p len placed part.answers (inl (has_taken items part.given p same low (λ d. assigned_place 0 p rs bs d low ∙ omega arith))),
      ) in
      subst (λ l. AreOutcomes gives mode items l) (sym (put_flat joined outcomes)) all

  -- if the whole was run, each place has an own outcome
  pub joined_whole : (whole : Bool) (joined : List (List Placed)) → AnswersSome gives mode whole (assigned_from 0 rs bs) (flat_map (λ rows. rows) joined) → whole ≡ true
      → (outcomes : List Outcome) → length outcomes ≡ length (assigned_from 0 rs bs) → AreOutcomes gives mode (assigned_from 0 rs bs) (put_each joined outcomes)
  joined_whole whole joined are all outcomes len =
      joined_own joined outcomes (subst (λ l. AnswersPart gives mode (assigned_from 0 rs bs) l (flat_map (λ rows. rows) joined)) (are.all all) are.answered) len

  -- what is at the place is own, or it is what was there before
  abbrev pub IsOwnOr : List Outcome → List Outcome → ℕ → Type 0
  IsOwnOr old new p = IsOutcomeAt gives mode (assigned_from 0 rs bs) new p ⊎ ((o : Outcome) → slice_index_or new p o ≡ slice_index_or old p o)

  own_or : (xs : List (Assigned X)) (rows : List Placed) (outs : List Outcome) (p : ℕ) → length outs ≡ length (assigned_from 0 rs bs) → ArePlaced (assigned_from 0 rs bs) xs → Answers gives mode xs rows
      → IsOwnOr outs (put_all rows outs) p
  own_or [] [] outs p len placed all = inr (λ o. refl)
  own_or [] (r ∷ rows) outs p len placed all = absurd all
  own_or (x ∷ xs) [] outs p len placed all = absurd all
  own_or (x ∷ xs) (r ∷ rows) outs p len placed all =
      let items = assigned_from 0 rs bs in
      let set = slice_set outs r.0 r.1 in
      elim (own_or xs rows set p (length-set outs r.0 r.1 ∙ len) placed.1 all.2) [
        | inl own ↦ inl own
        | inr same ↦ elim (eqb_tells p r.0) [
          | inl e ↦ inl (λ a o.
              let Q : Outcome → Type 0 = λ v. IsOutcomeOf gives (slice_index_or items p a).ignored (slice_index_or items p a).runner mode v in
              subst Q (sym (same o)) (own_here gives mode items x r outs p len placed.0 all.0 all.1 (sym all.0 ∙ sym e.1) a o))
          | inr e ↦ inr (λ o. same o ∙ get_or-set_other outs r.0 p r.1 o e.1)
        ]
      ]

  -- once the rows of all workers are put at their places, each place has an own outcome, or the one that it had
  pub joined_own_or : (dropped : List (Assigned X)) (joined : List (List Placed)) (outcomes : List Outcome) (p : ℕ) → AnswersPart gives mode (assigned_from 0 rs bs) dropped (flat_map (λ rows. rows) joined)
      → length outcomes ≡ length (assigned_from 0 rs bs) → IsOwnOr outcomes (put_each joined outcomes) p
  joined_own_or dropped joined outcomes p part len =
      let items = assigned_from 0 rs bs in
      let rows = flat_map (λ rows. rows) joined in
      let placed : ArePlaced items part.given = first_placed items part.given dropped (recursion_from_All (IsPlaced items) (part.given ++ dropped) (All-permutation (IsPlaced items) items (part.given ++ dropped) part.parts (All-from_recursion (IsPlaced items) items (placed_whole rs bs)))) in
      subst (λ l. IsOwnOr outcomes l p) (sym (put_flat joined outcomes)) (own_or part.given rows outcomes p len placed part.answers)
