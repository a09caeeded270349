-- Lists of which each item of the one belongs to the item of the other at its place.
use Rattle.std.proofs.Common.{List, [], ◌∷◌, ◌++◌}
use Rattle.std.specs.List.{AllZip}

-- one more pair
pub each_more : {A B : Type 0} (R : A → B → Type 0) (xs : List A) (ys : List B) (x : A) (y : B) → AllZip R xs ys → R x y → AllZip R (xs ++ x ∷ []) (ys ++ y ∷ [])
each_more R [] [] x y h r = (r, tt)
each_more R [] (b ∷ ys) x y h r = absurd h
each_more R (a ∷ xs) [] x y h r = absurd h
each_more R (a ∷ xs) (b ∷ ys) x y h r = (h.0, each_more R xs ys x y h.1 r)
