-- First lines of several shapes, from the fullest on.
use Rattle.std.proofs.Common.{◌≡◌, ℕ, ◌+◌, ◌<◌, ◌≤◌, Bool, true, false, nat_lt, if◌then◌else◌, List, [], ◌∷◌, length, drop, drop-cons, get_or, arith, ap, refl, sym, ◌∙◌, add-one}
use Rattle.std.proofs.lemmas.Bool.Decides.{nat_tests}
use Rattle.std.proofs.lemmas.List.{drop_all}
use Rattle.mimic_watch.specs.declared.frame.TheConstants.{SHAPES}
use Rattle.mimic_watch.specs.declared.frame.View.{View}
use Rattle.mimic_watch.specs.Frames.{FirstLinesFit, Shape, first_fitting, shaped}

module _ (columns : ℕ) (v : View) (shapes : List Shape) (i : ℕ) where
  -- from the next of the shapes on
  next : (d : Shape) → i < length shapes → first_fitting columns v (drop i shapes)
      ≡ (if nat_lt columns (length (shaped v (get_or shapes i d))) then first_fitting columns v (drop (i + 1) shapes)
      else shaped v (get_or shapes i d))
  unfolding first_fitting
  next d h = ap (first_fitting columns v) (drop-cons shapes i d h ∙ ap (λ n. get_or shapes i d ∷ drop n shapes) (sym (add-one i)))

  -- it fits, or doesn't, or there is none
  pub next_fits : (d : Shape) → i < length shapes → length (shaped v (get_or shapes i d)) ≤ columns
      → first_fitting columns v (drop i shapes) ≡ shaped v (get_or shapes i d)
  next_fits d h few =
      let no : nat_lt columns (length (shaped v (get_or shapes i d))) ≡ false = grind (arith, nat_tests, few) in rw (next d h, no)

  pub next_too_wide : (d : Shape) → i < length shapes → columns < length (shaped v (get_or shapes i d))
      → first_fitting columns v (drop i shapes) ≡ first_fitting columns v (drop (i + 1) shapes)
  next_too_wide d h many =
      let yes : nat_lt columns (length (shaped v (get_or shapes i d))) ≡ true = grind (arith, nat_tests, many) in rw (next d h, yes)

  pub none_fits : length shapes ≤ i → first_fitting columns v (drop i shapes) ≡ []
  unfolding first_fitting
  none_fits h = ap (first_fitting columns v) (drop_all i shapes h)

-- ---- how wide they are

one_fits : (columns : ℕ) (line others : List ℕ) (b : Bool) → nat_lt columns (length line) ≡ b → length others ≤ columns
    → length (if b then others else line) ≤ columns
one_fits columns line others true is h = h
one_fits columns line others false is h = grind (arith, nat_tests, is)

all_fit : (columns : ℕ) (v : View) (shapes : List Shape) → length (first_fitting columns v shapes) ≤ columns
unfolding first_fitting
all_fit columns v [] = omega arith
all_fit columns v (s ∷ shapes) = one_fits columns (shaped v s) (first_fitting columns v shapes)
    (nat_lt columns (length (shaped v s))) refl (all_fit columns v shapes)

pub first_lines_fit : FirstLinesFit
first_lines_fit columns v = all_fit columns v SHAPES
