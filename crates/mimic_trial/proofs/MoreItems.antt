-- A shard grows by the items that belong to it.
use Rattle.std.proofs.Common.{◌≡◌, ℕ, suc, ◌+◌, ◌%◌, Bool, true, false, cond, eqb, List, [], ◌∷◌, ◌++◌, length, refl, sym, ap, ◌∙◌, arith, append_assoc, ap₂}
use Rattle.mimic_trial.specs.Shard.{shard_from}

module _ {X : Type 0} where
  -- one more item at the end
  more_at : (b : Bool) (x : X) (xs : List X) → cond b (x ∷ xs) xs ≡ cond b (x ∷ []) [] ++ xs
  more_at true x xs = refl
  more_at false x xs = refl

  pub shard_push : (count place index : ℕ) (xs : List X) (x : X)
      → shard_from count place index (xs ++ x ∷ []) ≡ shard_from count place index xs ++ cond (eqb ((place + length xs) % count) index) (x ∷ []) []
  shard_push count place index [] x = let same : place + 0 ≡ place = omega arith in rw same refl
  shard_push count place index (y ∷ xs) x =
      let same : place + 1 + length xs ≡ place + suc (length xs) = omega arith in
      more_at (eqb (place % count) index) y (shard_from count (place + 1) index (xs ++ x ∷ []))
      ∙ ap (λ (l : List X). cond (eqb (place % count) index) (y ∷ []) [] ++ l) (shard_push count (place + 1) index xs x)
      ∙ sym (append_assoc (cond (eqb (place % count) index) (y ∷ []) []) _ _)
      ∙ ap (λ (n : ℕ). (cond (eqb (place % count) index) (y ∷ []) [] ++ shard_from count (place + 1) index xs) ++ cond (eqb (n % count) index) (x ∷ []) []) same
      ∙ ap (λ (l : List X). l ++ cond (eqb ((place + suc (length xs)) % count) index) (x ∷ []) []) (sym (more_at (eqb (place % count) index) y (shard_from count (place + 1) index xs)))

-- one more test
pub shard_more : {X : Type 0} (count index place : ℕ) (seen old new : List X) (x : X) (wanted : Bool) → place ≡ length seen → old ≡ shard_from count 0 index seen
    → wanted ≡ eqb (place % count) index → new ≡ old ++ cond wanted (x ∷ []) [] → new ≡ shard_from count 0 index (seen ++ x ∷ [])
shard_more count index place seen old new x wanted p e w n =
    let at : place ≡ 0 + length seen = omega (arith, p) in
    n ∙ ap₂ (λ l b. l ++ cond b (x ∷ []) []) e (w ∙ ap (λ k. eqb (k % count) index) at) ∙ sym (shard_push count 0 index seen x)
