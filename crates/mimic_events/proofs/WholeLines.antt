-- A text begins with one line at most.
use Rattle.std.proofs.Common.{◌≡◌, ℕ, ◌<◌, length, List, [], ◌∷◌, ◌++◌, refl, sym, ap, ◌∙◌, append_assoc, arith}
use Rattle.std.proofs.lemmas.List.{length-append}
use Rattle.mimic_printer.specs.Json.{HasNoEnd, IsLine}

one_front : (a b x y : List ℕ) → HasNoEnd a → HasNoEnd b → a ++ 10 ∷ x ≡ b ++ 10 ∷ y → (a ≡ b) × (x ≡ y)
one_front [] [] x y ha hb e = (refl, cc)
one_front [] (c ∷ b) x y ha hb e = absurd (let f : c ≡ 10 = cc in hb.0 f)
one_front (c ∷ a) [] x y ha hb e = absurd (let f : c ≡ 10 = cc in ha.0 f)
one_front (c ∷ a) (d ∷ b) x y ha hb e =
    let head : c ≡ d = cc in
    let h = one_front a b x y ha.1 hb.1 cc in
    (rw (head, h.0) refl, h.1)

-- a line at the front of a text, by what comes before its end
opened : (a x : List ℕ) (h : IsLine a) → a ++ x ≡ h.front ++ 10 ∷ x
opened a x h = ap (λ (t : List ℕ). t ++ x) h.parts ∙ append_assoc h.front (10 ∷ []) x

pub one_line : (a b x y : List ℕ) → IsLine a → IsLine b → a ++ x ≡ b ++ y → (a ≡ b) × (x ≡ y)
one_line a b x y ha hb e =
    let h = one_front ha.front hb.front x y ha.whole hb.whole (sym (opened a x ha) ∙ e ∙ opened b y hb) in
    (ha.parts ∙ ap (λ (t : List ℕ). t ++ 10 ∷ []) h.0 ∙ sym hb.parts, h.1)

no_front : (a x y : List ℕ) → HasNoEnd y → a ++ 10 ∷ x ≡ y → ⊥
no_front [] x [] h e = cc
no_front [] x (c ∷ y) h e = let f : c ≡ 10 = cc in h.0 f
no_front (b ∷ a) x [] h e = cc
no_front (b ∷ a) x (c ∷ y) h e = no_front a x y h.1 cc

-- no line begins a text without a line end
pub no_line : (a x y : List ℕ) → IsLine a → HasNoEnd y → a ++ x ≡ y → ⊥
no_line a x y ha h e = no_front ha.front x y h (sym (opened a x ha) ∙ e)

pub line_some : (a : List ℕ) → IsLine a → 0 < length a
line_some a h = omega (arith, ap length h.parts, length-append h.front (10 ∷ []))
