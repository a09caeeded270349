-- What holds of each element of a list, one by one, and what is found in it.
use Rattle.std.proofs.Common.{ℕ, suc, zero, ◌≡◌, ◌<◌, ◌∙◌, ◌∷◌, ◌++◌, [], All, Bor, List, None, Option, Some, ap, arith, length, refl, replicate, slice_index_or, subst, sym}
use Rattle.std.specs.Prelude.{IfSome, IsSome, slice_get}
use Rattle.std.specs.Option.{option_copied}
use Rattle.std.proofs.lemmas.Option.{slice_get-get_or, slice_get_past}
use Rattle.std.proofs.lemmas.List.Elements.{All-head, All-push, All-tail}

module _ {A : Type 0} (P : A → Type 0) where
  -- the first of a list, and the rest
  pub first_of : (x : A) (rest all : List A) → all ≡ x ∷ rest → All P all → P x
  first_of x rest all is are = All-head P x rest (subst (All P) is are)

  pub rest_of : (x : A) (rest all : List A) → all ≡ x ∷ rest → All P all → All P rest
  rest_of x rest all is are = All-tail P x rest (subst (All P) is are)

  -- one more
  pub with_one : (x : A) (before all : List A) → all ≡ before ++ x ∷ [] → All P before → P x → All P all
  with_one x before all is are this = subst (All P) (sym is) (All-push P before x are this)

-- what a look at the list gives
pub item_got : {A : Type 0} (got : Option (Bor A)) (xs : List A) (i : ℕ) → (IsSome got → i < length xs) → (i < length xs → IsSome got) → IfSome got (λ x. x.now ≡ slice_index_or xs i x.now) → option_copied got ≡ slice_get xs i
item_got None xs i within some is =
    let high : i < length xs → ⊥ = λ low. let none = some low in cc in
    sym (slice_get_past xs i (omega (arith, high)))
item_got (Some got) xs i within some is = ap Some is ∙ sym (slice_get-get_or xs i got.now (within refl))

-- in a list of one value, each item is that value
pub all_same : {A : Type 0} (x : A) (n i : ℕ) → slice_index_or (replicate n x) i x ≡ x
all_same x zero i = refl
all_same x (suc n) zero = refl
all_same x (suc n) (suc i) = all_same x n i
