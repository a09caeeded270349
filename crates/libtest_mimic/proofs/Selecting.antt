-- Lemmas on lists of which some elements are left out.
use Rattle.std.proofs.Common.{All, ◌≡◌, ◌∙◌, ◌≤◌, Bool, true, false, List, [], ◌∷◌, ap, arith, inl, inr, length, refl, subst, sym}
use Rattle.std.proofs.lemmas.List.Elements.{All-cons, All-head, All-tail}
use Rattle.std.specs.List.{items_where_true}
use Rattle.std.specs.List.Retain.{IsFiltered, ReturnsInTurn}
use Rattle.libtest_mimic.specs.Prelude.{LeavesOut}

module _ {A P : Type 0} (R : P → A → Bool → P → Type 0) (Out : A → Type 0) (p : P) (says : (x : A) (b : Bool) (q : P) → R p x b q → (b ≡ true → ¬ Out x) × (b ≡ false → Out x) × (q ≡ p)) where
  kept : (bs : List Bool) (xs : List A) (q r : P) → r ≡ p → length bs ≡ length xs → ReturnsInTurn R r bs xs q → LeavesOut Out xs (items_where_true bs xs)
  kept [] [] q r same e told = refl
  kept [] (x ∷ xs) q r same e told = absurd (omega arith)
  kept (b ∷ bs) [] q r same e told = absurd (omega arith)
  kept (true ∷ bs) (x ∷ xs) q r same e told =
      let here : R p x true told.0 = subst (λ (s : P). R s x true told.0) same told.1 in
      let said = says x true told.0 here in
      inr (said.0 refl, (items_where_true bs xs, refl, kept bs xs q told.0 said.2 (omega arith) told.2))
  kept (false ∷ bs) (x ∷ xs) q r same e told =
      let here : R p x false told.0 = subst (λ (s : P). R s x false told.0) same told.1 in
      let said = says x false told.0 here in
      inl (said.1 refl, kept bs xs q told.0 said.2 (omega arith) told.2)

  -- what `retain` keeps, if the closure answers `false` for what is left out, and stays as it is
  pub LeavesOut-from_retain : (xs ys : List A) → IsFiltered R p xs ys → LeavesOut Out xs ys
  LeavesOut-from_retain xs ys h = let Q : List A → Type 0 = λ l. LeavesOut Out xs l in subst Q (sym h.4) (kept h.0 xs h.1 p refl h.2 h.3)

-- if nothing is to be left out, all are kept
pub LeavesOut-none : {A : Type 0} (Out : A → Type 0) → ((x : A) → ¬ Out x) → (xs : List A) → LeavesOut Out xs xs
LeavesOut-none Out none [] = refl
LeavesOut-none Out none (x ∷ xs) = inr (none x, (xs, refl, LeavesOut-none Out none xs))

-- no more than there were
pub length-LeavesOut-le : {A : Type 0} (Out : A → Type 0) (xs ys : List A) → LeavesOut Out xs ys → length ys ≤ length xs
length-LeavesOut-le Out [] ys h = omega (arith, ap length h)
length-LeavesOut-le Out (x ∷ xs) ys (inl h) = omega (arith, length-LeavesOut-le Out xs ys h.1)
length-LeavesOut-le Out (x ∷ xs) ys (inr h) = omega (arith, length-LeavesOut-le Out xs h.1.0 h.1.2, ap length h.1.1)

-- nothing else is kept
pub LeavesOut-unique : {A : Type 0} (Out : A → Type 0) (xs ys zs : List A) → LeavesOut Out xs ys → LeavesOut Out xs zs → ys ≡ zs
LeavesOut-unique Out [] ys zs h k = h ∙ sym k
LeavesOut-unique Out (x ∷ xs) ys zs (inl h) (inl k) = LeavesOut-unique Out xs ys zs h.1 k.1
LeavesOut-unique Out (x ∷ xs) ys zs (inl h) (inr k) = absurd (k.0 h.0)
LeavesOut-unique Out (x ∷ xs) ys zs (inr h) (inl k) = absurd (h.0 k.0)
LeavesOut-unique Out (x ∷ xs) ys zs (inr h) (inr k) =
    h.1.1 ∙ ap (λ l. x ∷ l) (LeavesOut-unique Out xs h.1.0 k.1.0 h.1.2 k.1.2) ∙ sym k.1.1

-- what holds of all holds of those that are kept
pub All-LeavesOut : {A : Type 0} (Out P : A → Type 0) (xs ys : List A) → LeavesOut Out xs ys → All P xs → All P ys
All-LeavesOut Out P [] ys h all = subst (All P) (sym h) all
All-LeavesOut Out P (x ∷ xs) ys (inl h) all = All-LeavesOut Out P xs ys h.1 (All-tail P x xs all)
All-LeavesOut Out P (x ∷ xs) ys (inr h) all =
    subst (All P) (sym h.1.1) (All-cons P x h.1.0 (All-head P x xs all) (All-LeavesOut Out P xs h.1.0 h.1.2 (All-tail P x xs all)))
