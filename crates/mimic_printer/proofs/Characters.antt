-- Lemmas on how many characters texts have.
use Rattle.std.proofs.Common.{◌≡◌, ℕ, ◌+◌, ◌<◌, ◌≤◌, ◌^◌, List, [], ◌∷◌, ◌++◌, length, map, refl, ap, sym, ◌∙◌, arith, length-append}
use Rattle.std.specs.Prelude.{codes, max, string_bytes}
use Rattle.std.specs.Str.{chars, IsUtf8, is_utf8}
use Rattle.std.specs.declared.string.String.{String}
use Rattle.std.proofs.lemmas.List.{map-append}
use Rattle.std.proofs.lemmas.Str.{chars-append, chars-nil, chars_from_encodes, IsUtf8-from_is_utf8, length-le-encodes}
use lib.Utf8.{encodes}
use Rattle.mimic_trial.specs.Text.{kind_part}
use Rattle.mimic_printer.specs.Widths.{widest}
use Rattle.mimic_printer.specs.Row.{Label}

kind_part_chars-some : (kind : List ℕ) → IsUtf8 kind → 0 < length kind → length (chars (kind_part kind)) ≡ length (chars kind) + 3
unfolding chars is_utf8 lib.Utf8.encode
kind_part_chars-some [] u h = absurd (omega arith)
kind_part_chars-some (b ∷ bs) u h =
    let kind : List ℕ = b ∷ bs in
    let open_utf8 : IsUtf8 (codes "[") = IsUtf8-from_is_utf8 (codes "[") refl in
    let split : chars (codes "[" ++ (kind ++ codes "] ")) ≡ chars (codes "[") ++ (chars kind ++ chars (codes "] ")) =
    chars-append (codes "[") (kind ++ codes "] ") open_utf8 ∙ ap (λ l. chars (codes "[") ++ l) (chars-append kind (codes "] ") u) in
    ap length split ∙ omega (arith, length-append (chars kind) (chars (codes "] ")))

-- how many bytes the brackets of a kind have
pub length-brackets : (front kind back : List ℕ) → front ++ (kind ++ back) ≡ kind_part kind → length front + (length kind + length back) ≡ length (kind_part kind)
length-brackets front kind back e =
    omega (arith, ap length e, length-append front (kind ++ back), length-append kind back)

-- a kind that is shown takes its characters and those of its brackets, which have a byte each
pub kind_part_chars : (front kind back : List ℕ) → IsUtf8 kind → front ++ (kind ++ back) ≡ kind_part kind
    → length (chars (kind_part kind)) ≡ length front + length (chars kind) + length back
kind_part_chars front [] back u e = ap length chars-nil ∙ omega (arith, length-brackets front [] back e, ap length chars-nil)
kind_part_chars front (b ∷ bs) back u e =
    let some : length (chars (kind_part (b ∷ bs))) ≡ length (chars (b ∷ bs)) + 3 = kind_part_chars-some (b ∷ bs) u (omega arith) in
    some ∙ omega (arith, length-brackets front (b ∷ bs) back e, length-append bs (codes "] "))

-- brackets are short
pub brackets_short : (front kind back : List ℕ) → front ++ (kind ++ back) ≡ kind_part kind → length front + length back ≤ 3
brackets_short front [] back e = omega (arith, length-brackets front [] back e)
brackets_short front (b ∷ bs) back e = omega (arith, length-brackets front (b ∷ bs) back e, length-append bs (codes "] "))

-- a text has at most as many characters as bytes
pub length-chars-le : (bs : List ℕ) → IsUtf8 bs → length (chars bs) ≤ length bs
length-chars-le bs u =
    let few : length u.0 ≤ length (encodes u.0) = length-le-encodes u.0 in
    let same : length u.0 ≡ length (chars bs) = ap length (chars_from_encodes u.0 bs u u.1.1) in
    let bytes : length (encodes u.0) ≡ length bs = ap length u.1.1 in
    omega arith

-- a `String` has fewer than 2 ^ 63 bytes
pub text_small : {Z : Type 0} (s : String Z) → length (string_bytes s) < 2 ^ 63
text_small s = let ok = s.bytes.ok in let small = s.bytes.small in omega arith

widest-append : (ns : List ℕ) (n : ℕ) → widest (ns ++ n ∷ []) ≡ max n (widest ns)
widest-append [] n = refl
widest-append (m ∷ ns) n = ap (max m) (widest-append ns n) ∙ omega arith

-- the widest of one more element
pub widest-push : {X : Type 0} (label : X → Label) (chars_of : Label → ℕ) (xs : List X) (x : X) (old new : ℕ) → old ≡ widest (map chars_of (map label xs))
    → new ≡ max (chars_of (label x)) old → new ≡ widest (map chars_of (map label (xs ++ x ∷ [])))
widest-push label chars_of xs x old new before after =
    let labels = map-append label xs (x ∷ []) in
    let counts = map-append chars_of (map label xs) (label x ∷ []) in
    after ∙ ap (max (chars_of (label x))) before ∙ sym (widest-append (map chars_of (map label xs)) (chars_of (label x)))
    ∙ sym (ap (λ l. widest (map chars_of l)) labels ∙ ap widest counts)
