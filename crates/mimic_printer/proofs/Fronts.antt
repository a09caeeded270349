-- The spelling of what comes first in a text can be unescaped, and is harmless.
use Rattle.std.proofs.Common.{◌≡◌, ◌&&◌, not, eqb, ltb, codes, ℕ, suc, ◌+◌, ◌-◌, ◌<◌, ◌≤◌, Bool, true, false, cond, List, [], ◌∷◌, ◌++◌, length, take, refl, ap, ap₂, ◌∙◌, subst, arith, inl, inr}
use Rattle.std.specs.Prelude.{slice_index}
use Rattle.std.specs.Str.{bytes_eq}
use Rattle.std.proofs.lemmas.Bool.{cases_lt, eqb-true}
use Rattle.std.proofs.lemmas.Bool.Decides.{nat_tests}
use Rattle.std.proofs.lemmas.Slice.Eq.{bytes_eq-Decides}
use Rattle.mimic_trial.proofs.Bounded.{all_below, one_below}
use Rattle.mimic_printer.specs.declared.place.Place.{Place}
use Rattle.mimic_printer.specs.declared.place.Place.TheVariants.{Content, Value, Html, Line, Terminal}
use Rattle.mimic_printer.specs.Places.{has_markup, is_forbidden, is_xml}
use Rattle.mimic_printer.specs.Escapes.{begins_control, begins_number, begins_with, front, hexadecimal, is_line, numbered, spelled, spelled_byte}
use Rattle.mimic_printer.specs.EscapeLaws.{begins_mark, character_of, ends_mark, is_harmless}

-- ---- tests

pub and_both : (p q : Bool) → (p && q) ≡ true → (p ≡ true) × (q ≡ true)
and_both true true h = (refl, refl)
and_both true false h = absurd cc
and_both false q h = absurd cc

pub not_true : (p : Bool) → not p ≡ true → p ≡ false
not_true true h = absurd cc
not_true false h = refl

-- the last byte ends the spelling, and no other does
unfoldable pub ends_once : List ℕ → Bool
ends_once [] = false
ends_once (e ∷ []) = ends_mark e
ends_once (x ∷ y ∷ t) = not (ends_mark x) && ends_once (y ∷ t)

-- what the spelling stands for, if these bytes came before
unfoldable pub decoded : List ℕ → List ℕ → List ℕ
decoded mark [] = []
decoded mark (e ∷ []) = character_of mark
decoded mark (x ∷ y ∷ t) = decoded (mark ++ x ∷ []) (y ∷ t)

-- the spelling is the one byte that it stands for, which is allowed there, or it has more bytes, can be unescaped, and is harmless
unfoldable pub fine : Place → List ℕ → List ℕ → Bool
fine place [] o = false
fine place (m ∷ []) o = bytes_eq (m ∷ []) o && not (is_forbidden place m)
fine place (m ∷ x ∷ []) o = false
fine place (m ∷ x ∷ y ∷ t) o =
    begins_mark place m (x ∷ y ∷ t) && (ends_once (x ∷ y ∷ t) && (bytes_eq (decoded (m ∷ []) (x ∷ y ∷ t)) o && is_harmless place (m ∷ x ∷ y ∷ t)))

-- ---- bytes

low : (place : Place) → all_below (λ b. fine place (spelled_byte place b) (b ∷ [])) 128 ≡ true
unfolding fine ends_once decoded
low Content = refl
low Value = refl
low Html = refl
low Line = refl
low Terminal = refl

high_allowed : (place : Place) (b : ℕ) → 128 ≤ b → is_forbidden place b ≡ false
high_allowed place b h = grind (arith, nat_tests)

high_fine : (place : Place) (b : ℕ) → 128 ≤ b → fine place (spelled_byte place b) (b ∷ []) ≡ true
unfolding fine
high_fine place b h =
    let allowed = high_allowed place b h in
    ap (λ (p : Bool). fine place (cond p (spelled place b) (b ∷ [])) (b ∷ [])) allowed
    ∙ ap₂ (λ (p q : Bool). p && not q) ((bytes_eq-Decides (b ∷ []) (b ∷ [])).1 refl) allowed

byte_fine : (place : Place) (b : ℕ) → fine place (spelled_byte place b) (b ∷ []) ≡ true
byte_fine place b = elim (cases_lt b 128) [
  | inl h ↦ one_below (λ c. fine place (spelled_byte place c) (c ∷ [])) 128 b (low place) h
  | inr h ↦ high_fine place b h
]

-- ---- characters of more bytes

controls : (place : Place) → all_below (λ k. fine place (numbered (hexadecimal (128 + k))) (194 ∷ (128 + k) ∷ [])) 32 ≡ true
unfolding fine ends_once decoded
controls place = refl

control_fine : (place : Place) (c : ℕ) → 128 ≤ c → c < 160 → fine place (numbered (hexadecimal c)) (194 ∷ c ∷ []) ≡ true
control_fine place c from to =
    let same : 128 + (c - 128) ≡ c = omega (arith, from) in
    subst (λ (n : ℕ). fine place (numbered (hexadecimal n)) (194 ∷ n ∷ []) ≡ true) same
    (one_below (λ k. fine place (numbered (hexadecimal (128 + k))) (194 ∷ (128 + k) ∷ [])) 32 (c - 128) (controls place) (omega (arith, from, to)))

constants : (place : Place) → (fine place (codes "\\u{5c}") (92 ∷ []) ≡ true) × (fine place (codes "\\u{fffe}") (239 ∷ 191 ∷ 190 ∷ []) ≡ true)
    × (fine place (codes "\\u{ffff}") (239 ∷ 191 ∷ 191 ∷ []) ≡ true) × (fine place (codes "\\u{2028}") (226 ∷ 128 ∷ 168 ∷ []) ≡ true)
    × (fine place (codes "\\u{2029}") (226 ∷ 128 ∷ 169 ∷ []) ≡ true)
unfolding fine ends_once decoded
constants place = (refl, refl, refl, refl, refl)

-- what begins so
all_three : (p q r : Bool) → (p && q && r) ≡ true → (p ≡ true) × (q ≡ true) × (r ≡ true)
all_three true true true h = (refl, refl, refl)
all_three true true false h = absurd cc
all_three true false r h = absurd cc
all_three false q r h = absurd cc

pub begun_by : (x y z : ℕ) (text : List ℕ) → begins_with x y z text ≡ true → (rest : List ℕ) × (text ≡ x ∷ y ∷ z ∷ rest)
begun_by x y z [] h = absurd cc
begun_by x y z (b ∷ []) h = absurd cc
begun_by x y z (b ∷ c ∷ []) h = absurd cc
begun_by x y z (b ∷ c ∷ d ∷ rest) h =
    let all = all_three (eqb b x) (eqb c y) (eqb d z) h in
    (rest, rw (eqb-true b x all.0, eqb-true c y all.1, eqb-true d z all.2) refl)

control_begun : (text : List ℕ) → begins_control text ≡ true → (c : ℕ) × (rest : List ℕ) × (text ≡ 194 ∷ c ∷ rest) × (128 ≤ c) × (c < 160)
control_begun [] h = absurd cc
control_begun (b ∷ []) h = absurd cc
control_begun (b ∷ c ∷ rest) h =
    let all = all_three (eqb b 194) (not (ltb c 128)) (ltb c 160) h in
    let low = all.1 in
    let high = all.2 in
    (c, rest, rw (eqb-true b 194 all.0) refl, grind (arith, nat_tests), grind (arith, nat_tests))

-- ---- the front

-- the spelling of the first `f.1` + 1 bytes of the text can be unescaped, and is harmless
pub record FrontIsFine (place : Place) (text : List ℕ) (f : List ℕ × ℕ) : Type 0 where
  pub is_fine : fine place f.0 (take (suc f.1) text) ≡ true
  pub within : suc f.1 ≤ length text

module _ (place : Place) (text : List ℕ) where
  three_fine : (s : List ℕ) (x y z : ℕ) (p : Bool) → fine place s (x ∷ y ∷ z ∷ []) ≡ true → (begins_with x y z text && p) ≡ true → FrontIsFine place text (s, 2)
  three_fine s x y z p h b =
      let begun = begun_by x y z text (and_both (begins_with x y z text) p b).0 in
      rw begun.1 (record { is_fine = h; within = omega arith })

  two_fine : (p : Bool) → (begins_control text && p) ≡ true → FrontIsFine place text (numbered (hexadecimal (slice_index text 1)), 1)
  two_fine p b =
      let c = control_begun text (and_both (begins_control text) p b).0 in
      rw c.2 (record { is_fine = control_fine place c.0 c.3 c.4; within = omega arith })

-- a choice of fronts
chosen : (place : Place) (text : List ℕ) (b : Bool) (f g : List ℕ × ℕ) → (b ≡ true → FrontIsFine place text f) → FrontIsFine place text g → FrontIsFine place text (cond b f g)
chosen place text true f g h k = h refl
chosen place text false f g h k = k

pub front_fine : (place : Place) (b : ℕ) (rest : List ℕ) → FrontIsFine place (b ∷ rest) (front place (b ∷ rest))
front_fine place b rest =
    let text : List ℕ = b ∷ rest in
    let all = constants place in
    chosen place text (begins_number text) _ _ (λ h. let begun = begun_by 92 117 123 text h in rw begun.1 (record { is_fine = all.0; within = omega arith }))
    (chosen place text _ _ _ (three_fine place text _ 239 191 190 (has_markup place) all.1)
    (chosen place text _ _ _ (three_fine place text _ 239 191 191 (has_markup place) all.2)
    (chosen place text _ _ _ (three_fine place text _ 226 128 168 (is_line place) all.3)
    (chosen place text _ _ _ (three_fine place text _ 226 128 169 (is_line place) all.4)
    (chosen place text _ _ _ (two_fine place text (not (is_xml place)))
    (record { is_fine = byte_fine place b; within = omega arith }))))))
