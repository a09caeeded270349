-- First lines.
use Rattle.std.proofs.Common.{◌≡◌, ℕ, List, [], ◌∷◌, cond, Bool, true, false, ◌==◌, Some, None, refl, slice_get, ap, ◌∙◌}
use Rattle.std.specs.Prelude.{codes}
use Rattle.mimic_printer.specs.Piece.{first_line}
use Rattle.mimic_compare.specs.Text.{colon_before}

pub no_line : (text : List ℕ) → slice_get text 0 ≡ None → colon_before (first_line text) ≡ []
unfolding first_line
no_line [] h = refl
no_line (b ∷ text) h = absurd (cc)

pub begun_line : (text : List ℕ) (b : ℕ) → slice_get text 0 ≡ Some b → colon_before (first_line text) ≡ cond (b == 10) [] (codes ": ")
unfolding first_line
begun_line [] b h = absurd (cc)
begun_line (a ∷ text) b h =
    let same : a ≡ b = cc in
    ap (λ (n : ℕ). colon_before (cond (n == 10) [] (n ∷ first_line text))) same ∙ at (b == 10)
  where
    at : (c : Bool) → colon_before (cond c [] (b ∷ first_line text)) ≡ cond c [] (codes ": ")
    at true = refl
    at false = refl
