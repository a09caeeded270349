-- Our spelling of texts is the kit's.
use Rattle.std.proofs.Common.{◌≡◌, ℕ, true, List, [], ◌∷◌, ◌++◌, refl, sym, ap₂, ◌∙◌, arith, inl, inr}
use Rattle.std.proofs.lemmas.Bool.{cases_lt}
use Rattle.std.proofs.lemmas.Slice.Eq.{bytes_eq-Decides}
use Rattle.std.specs.Str.{bytes_eq}
use Rattle.json.specs.Print as print
use Rattle.json.proofs.Printed.Strings.{escape_byte_plain}
use Rattle.mimic_trial.specs.Escape.{escape, escaped}
use Rattle.mimic_trial.proofs.Bounded.{all_below, one_below}
use Rattle.mimic_trial.proofs.Escapes.{escape-high}

low_same : all_below (λ b. bytes_eq (escape b) (print.escape_byte b)) 93 ≡ true
unfolding print.escape_byte
low_same = refl

pub escape_same : (b : ℕ) → escape b ≡ print.escape_byte b
escape_same b = elim (cases_lt b 93) [
  | inl lt ↦ (bytes_eq-Decides _ _).0 (one_below (λ c. bytes_eq (escape c) (print.escape_byte c)) 93 b low_same lt)
  | inr le ↦ escape-high b le ∙ sym (escape_byte_plain b (λ e. omega (arith, le, e)) (λ e. omega (arith, le, e)) (omega (arith, le)))
]

pub escaped_same : (text : List ℕ) → escaped text ≡ print.escape text
unfolding escaped
escaped_same [] = refl
escaped_same (b ∷ text) = ap₂ (λ (x y : List ℕ). x ++ y) (escape_same b) (escaped_same text)
