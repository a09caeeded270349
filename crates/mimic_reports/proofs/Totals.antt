-- The numbers of reports together.
use Rattle.std.proofs.Common.{◌≡◌, ℕ, ◌+◌, ◌<◌, List, [], ◌∷◌, ◌++◌, length, get_or, take, map, add_assoc, zero-add, add-zero}
use Rattle.std.proofs.lemmas.List.{map-append, take_more}
use Rattle.mimic_reports.specs.declared.junit_elements.Numbers.{Numbers}
use Rattle.mimic_reports.specs.Junit.{added, total}

total-append : (xs ys : List Numbers) → total (xs ++ ys) ≡ added (total xs) (total ys)
total-append [] ys = simp zero-add
total-append (n ∷ xs) ys = simp (total-append xs ys, add_assoc)

-- one more
pub total_more : {X : Type 0} (f : X → Numbers) (xs : List X) (at : ℕ) (d : X) → at < length xs
    → added (total (map f (take at xs))) (f (get_or xs at d)) ≡ total (map f (take (at + 1) xs))
total_more f xs at d within = simp (take_more xs at d within, map-append, total-append, add-zero)
