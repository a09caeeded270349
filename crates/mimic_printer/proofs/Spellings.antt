-- Texts up to their next escape, and behind it.
use Rattle.std.proofs.Common.{◌≡◌, ℕ, zero, suc, ◌+◌, ◌-◌, ◌<◌, ◌≤◌, true, false, List, [], ◌∷◌, ◌++◌, length, get_or, take, drop, drop-cons, add-one, length-drop, refl, sym, ap, ap₂, ◌∙◌, arith, append_assoc, append-nil}
use Rattle.std.proofs.lemmas.Bool.{ne_eqb}
use Rattle.std.proofs.lemmas.Bool.Decides.{nat_tests}
use Rattle.std.proofs.lemmas.List.{drop-drop, drop_all, take_all, take_more}
use Rattle.mimic_printer.specs.declared.place.Place.{Place}
use Rattle.mimic_printer.specs.declared.spelling.Spelling.{Spelling}
use Rattle.mimic_printer.specs.declared.escape.Escape.{Escape}
use Rattle.mimic_printer.specs.Escapes.{IsNextEscape, IsSpelling, begins_control, begins_with, escaped, escaped_after, front, spelled_byte}
use Rattle.mimic_printer.specs.Places.{plain_byte}

-- ---- byte by byte

-- bytes that were spelled before say no more
skipped : (k : ℕ) (place : Place) (text : List ℕ) → escaped_after k place text ≡ escaped place (drop k text)
unfolding escaped_after
skipped zero place [] = refl
skipped (suc k) place [] = refl
skipped zero place (b ∷ rest) = refl
skipped (suc k) place (b ∷ rest) = skipped k place rest

one : (place : Place) (text : List ℕ) → 0 < length text → escaped place text ≡ (front place text).0 ++ escaped place (drop ((front place text).1 + 1) text)
unfolding escaped_after
one place [] h = absurd (omega arith)
one place (b ∷ rest) h =
    let f = front place (b ∷ rest) in
    ap (λ (l : List ℕ). f.0 ++ l) (skipped f.1 place rest) ∙ ap (λ (n : ℕ). f.0 ++ escaped place (drop n (b ∷ rest))) (sym (add-one f.1))

-- ---- bytes by themselves

not_begun : (b x y z : ℕ) (rest : List ℕ) → (b ≡ x → ⊥) → begins_with x y z (b ∷ rest) ≡ false
not_begun b x y z [] h = refl
not_begun b x y z (c ∷ []) h = refl
not_begun b x y z (c ∷ d ∷ rest) h = rw (ne_eqb b x h) refl

no_control : (b : ℕ) (rest : List ℕ) → (b ≡ 194 → ⊥) → begins_control (b ∷ rest) ≡ false
no_control b [] h = refl
no_control b (c ∷ rest) h = rw (ne_eqb b 194 h) refl

plain_spelled : (place : Place) (b : ℕ) → plain_byte b ≡ true → spelled_byte place b ≡ b ∷ []
plain_spelled place b h = grind (arith, nat_tests)

differs : (b : ℕ) → plain_byte b ≡ true → (b ≡ 92 → ⊥) × (b ≡ 239 → ⊥) × (b ≡ 226 → ⊥) × (b ≡ 194 → ⊥)
differs b h = (λ e. grind (arith, nat_tests), λ e. grind (arith, nat_tests), λ e. grind (arith, nat_tests), λ e. grind (arith, nat_tests))

plain_front : (place : Place) (b : ℕ) (rest : List ℕ) → plain_byte b ≡ true → escaped place (b ∷ rest) ≡ b ∷ escaped place rest
plain_front place b rest h =
    let d = differs b h in
    let is : front place (b ∷ rest) ≡ (b ∷ [], 0) =
    rw (
      not_begun b 92 117 123 rest d.0,
      not_begun b 239 191 190 rest d.1,
      not_begun b 239 191 191 rest d.1,
      not_begun b 226 128 168 rest d.2,
      not_begun b 226 128 169 rest d.2,
      no_control b rest d.3,
      plain_spelled place b h,
    ) refl in
    one place (b ∷ rest) (omega arith) ∙ ap (λ (f : List ℕ × ℕ). f.0 ++ escaped place (drop (f.1 + 1) (b ∷ rest))) is

-- one more of them
pub one_more : (place : Place) (text : List ℕ) (at : ℕ) (d : ℕ) → at < length text → escaped place text ≡ take at text ++ escaped place (drop at text)
    → plain_byte (get_or text at d) ≡ true → escaped place text ≡ take (at + 1) text ++ escaped place (drop (at + 1) text)
one_more place text at d h e p =
    let b = get_or text at d in
    let next : suc at ≡ at + 1 = omega arith in
    e ∙ ap (λ (l : List ℕ). take at text ++ escaped place l) (drop-cons text at d h)
    ∙ ap (λ (l : List ℕ). take at text ++ l) (plain_front place b (drop (suc at) text) p)
    ∙ sym (append_assoc (take at text) (b ∷ []) (escaped place (drop (suc at) text)))
    ∙ ap (λ (l : List ℕ). l ++ escaped place (drop (suc at) text)) (sym (take_more text at d h))
    ∙ ap (λ (n : ℕ). take (at + 1) text ++ escaped place (drop n text)) next

nothing : (place : Place) → escaped place [] ≡ []
unfolding escaped_after
nothing place = refl

-- all bytes are
pub all_plain : (place : Place) (text : List ℕ) (at : ℕ) → length text ≤ at → escaped place text ≡ take at text ++ escaped place (drop at text) → escaped place text ≡ text
all_plain place text at h e =
    e ∙ ap₂ (λ (s t : List ℕ). s ++ escaped place t) (take_all at text h) (drop_all at text h) ∙ ap (λ (l : List ℕ). text ++ l) (nothing place) ∙ append-nil text

-- ---- the next escape

-- what follows a place, as a slice gives it
pub behind : (text : List ℕ) (at : ℕ) → take (length text - at) (drop at text) ≡ drop at text
behind text at = take_all (length text - at) (drop at text) (omega (arith, length-drop at text))

pub escape_found : (place : Place) (text rest : List ℕ) (at : ℕ) (s : Spelling) (count : ℕ) → at < length text
    → escaped place text ≡ take at text ++ escaped place (drop at text) → rest ≡ drop at text → IsSpelling s (front place rest).0
    → count ≡ (front place rest).1 + 1 → count ≤ length rest → IsNextEscape place text (record { at = at; spelling = s; end = at + count })
escape_found place text rest at s count h e is k c fits =
    let some : 0 < length rest = omega (arith, ap length is, length-drop at text) in
    record {
      short = k.short;
      some = omega (arith, c);
      within = omega (arith, fits, ap length is, length-drop at text);
      whole = e ∙ ap (λ (l : List ℕ). take at text ++ escaped place l) (sym is) ∙ ap (λ (l : List ℕ). take at text ++ l) (one place rest some)
          ∙ ap₂ (λ (t : List ℕ) (n : ℕ). take at text ++ (t ++ escaped place (drop n rest))) (sym k.bytes) (sym c)
          ∙ ap (λ (l : List ℕ). take at text ++ (take s.len s.bytes ++ escaped place l)) (ap (drop count) is ∙ drop-drop count at text);
    }

-- the text up to the next escape, the escape, and what follows it, as a slice gives it
pub escape_split : (place : Place) (text : List ℕ) (e : Escape) (t : List ℕ) → IsNextEscape place text e → IsSpelling e.spelling t
    → escaped place text ≡ take e.at text ++ (t ++ escaped place (take (length text - e.end) (drop e.end text)))
escape_split place text e t next k =
    next.whole ∙ ap₂ (λ (m l : List ℕ). take e.at text ++ (m ++ escaped place l)) k.bytes (sym (behind text e.end))
