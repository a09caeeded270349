-- The first line of a text.
use Rattle.std.proofs.Common.{◌≡◌, ℕ, suc, ◌+◌, ◌<◌, ◌≤◌, true, false, eqb, eq-eqb, List, [], ◌∷◌, ◌++◌, length, get_or, take, drop, drop-cons, refl, sym, ap, ap₂, ◌∙◌, arith, append_assoc, append-nil}
use Rattle.std.proofs.lemmas.Bool.{ne_eqb}
use Rattle.std.proofs.lemmas.List.{drop_all, take_all, take_more}
use Rattle.mimic_printer.specs.Piece.{first_line}

ends_here : (b : ℕ) (rest : List ℕ) → eqb b 10 ≡ true → first_line (b ∷ rest) ≡ []
unfolding first_line
ends_here b rest h = rw h refl

goes_on : (b : ℕ) (rest : List ℕ) → eqb b 10 ≡ false → first_line (b ∷ rest) ≡ b ∷ first_line rest
unfolding first_line
goes_on b rest h = rw h refl

nothing : first_line [] ≡ []
unfolding first_line
nothing = refl

module _ (text : List ℕ) (at d : ℕ) where
  -- one more byte of the line
  pub line_more : at < length text → first_line text ≡ take at text ++ first_line (drop at text) → (get_or text at d ≡ 10 → ⊥)
      → first_line text ≡ take (at + 1) text ++ first_line (drop (at + 1) text)
  line_more h e n =
      let b = get_or text at d in
      let next : suc at ≡ at + 1 = omega arith in
      e ∙ ap (λ (l : List ℕ). take at text ++ first_line l) (drop-cons text at d h) ∙ ap (λ (l : List ℕ). take at text ++ l) (goes_on b (drop (suc at) text) (ne_eqb b 10 n))
      ∙ sym (append_assoc (take at text) (b ∷ []) (first_line (drop (suc at) text)))
      ∙ ap (λ (l : List ℕ). l ++ first_line (drop (suc at) text)) (sym (take_more text at d h))
      ∙ ap (λ (n : ℕ). take (at + 1) text ++ first_line (drop n text)) next

  -- the line ends here
  pub line_ends : at < length text → first_line text ≡ take at text ++ first_line (drop at text) → get_or text at d ≡ 10 → take at text ≡ first_line text
  line_ends h e n =
      sym (e ∙ ap (λ (l : List ℕ). take at text ++ first_line l) (drop-cons text at d h)
      ∙ ap (λ (l : List ℕ). take at text ++ l) (ends_here (get_or text at d) (drop (suc at) text) (eq-eqb (get_or text at d) 10 n)) ∙ append-nil (take at text))

-- it is the whole text
pub line_whole : (text : List ℕ) (at : ℕ) → length text ≤ at → first_line text ≡ take at text ++ first_line (drop at text) → text ≡ first_line text
line_whole text at h e =
    sym (e ∙ ap₂ (λ (s t : List ℕ). s ++ first_line t) (take_all at text h) (drop_all at text h) ∙ ap (λ (l : List ℕ). text ++ l) nothing ∙ append-nil text)
