-- Texts between the quotes of a JSON string: that they are text, and that they are spelled character by character.
use Rattle.std.proofs.Common.{◌≡◌, ℕ, zero, suc, ◌<◌, ◌≤◌, true, List, [], ◌∷◌, ◌++◌, length, get_or, slice_index, encode_utf8, encode_utf8_all, refl, sym, ap, ◌∙◌, arith, inl, inr, lit<, append-nil}
use Rattle.std.specs.List.{flat_map}
use Rattle.std.specs.Str.{is_utf8}
use Rattle.std.proofs.lemmas.Bool.{cases_lt, lt-ltb, le-ltb}
use Rattle.std.proofs.lemmas.Bool.Decides.{nat_tests}
use Rattle.std.proofs.lemmas.List.Concat.{flat_map-append}
use Rattle.std.proofs.lemmas.Str.{encode_ascii, inside_one, is_utf8-from_IsUtf8, IsUtf8-from_ascii}
use Rattle.mimic_trial.specs.Escape.{ArePlain, EscapesCharacters, escape, escape_char, escaped}

-- ---- the six bytes of a control character are text

control_ascii : (a b i : ℕ) → a < 128 → b < 128 → slice_index (92 ∷ 117 ∷ 48 ∷ 48 ∷ a ∷ b ∷ []) i < 128
control_ascii a b zero ha hb = lit< tt
control_ascii a b (suc zero) ha hb = lit< tt
control_ascii a b (suc (suc zero)) ha hb = lit< tt
control_ascii a b (suc (suc (suc zero))) ha hb = lit< tt
control_ascii a b (suc (suc (suc (suc zero)))) ha hb = ha
control_ascii a b (suc (suc (suc (suc (suc zero))))) ha hb = hb
control_ascii a b (suc (suc (suc (suc (suc (suc n)))))) ha hb = lit< tt

pub control_utf8 : (a b : ℕ) → a < 128 → b < 128 → is_utf8 (92 ∷ 117 ∷ 48 ∷ 48 ∷ a ∷ b ∷ []) ≡ true
control_utf8 a b ha hb = is_utf8-from_IsUtf8 _ (IsUtf8-from_ascii _ (λ i. control_ascii a b i ha hb))

-- ---- bytes that are written as they are

pub escape-high : (b : ℕ) → 93 ≤ b → escape b ≡ b ∷ []
escape-high b h = grind (arith, nat_tests)

-- bytes that stand for themselves are spelled as they are
pub escaped-plain : (plain : List ℕ) → ArePlain plain → escaped plain ≡ plain
unfolding escaped
escaped-plain [] p = refl
escaped-plain (b ∷ plain) p = ap (λ (x : List ℕ). x ++ escaped plain) p.0 ∙ ap (λ (x : List ℕ). b ∷ x) (escaped-plain plain p.1)

high_bytes : (bs : List ℕ) → ((k : ℕ) → k < length bs → 128 ≤ get_or bs k 0) → escaped bs ≡ bs
unfolding escaped
high_bytes [] h = refl
high_bytes (b ∷ bs) h =
    let first : 128 ≤ b = h 0 (omega arith) in
    let rest : flat_map escape bs ≡ bs = high_bytes bs (λ k lt. h (suc k) (omega (arith, lt))) in
    rw (escape-high b (omega (arith, first)), rest) refl

-- ---- by bytes is by characters

one_character : (c : ℕ) → escaped (encode_utf8 c) ≡ escape_char c
unfolding escaped
one_character c = elim (cases_lt c 128) [
  | inl low ↦ rw (encode_ascii c low, lt-ltb c 128 low) (append-nil (escape c))
  | inr high ↦ rw (le-ltb c 128 high) (high_bytes (encode_utf8 c) (λ k lt. elim (cases_lt (get_or (encode_utf8 c) k 0) 128) [
    | inl small ↦ let e = inside_one c [] (encode_utf8 c) k (sym (append-nil (encode_utf8 c))) lt small in absurd (omega (arith, e, small, high))
    | inr le ↦ le
  ]))
]

pub escapes_characters : EscapesCharacters
unfolding escaped
escapes_characters [] = refl
escapes_characters (c ∷ cs) = flat_map-append escape (encode_utf8 c) (encode_utf8_all cs) ∙ rw (one_character c, escapes_characters cs) refl
