-- Seconds in exact decimal are a number of JSON, and are read as the nearest float.
use Rattle.std.proofs.Common.{◌≡◌, ◌≢◌, ℕ, zero, suc, ◌+◌, ◌-◌, ◌*◌, ◌/◌, ◌%◌, ◌^◌, ◌<◌, ◌≤◌, true, false, List, [], ◌∷◌, ◌++◌, length, drop, get_or, Some, decimal, refl, sym, ap, ap₂, subst, ◌∙◌, arith, inl, inr, append-nil}
use Rattle.std.specs.Prelude.{T}
use Rattle.std.specs.Char.{digit_value}
use Rattle.std.specs.Float.{Float, binary64, float_is_finite}
use Rattle.std.specs.Str.Parse.{AllDigits, digits_value}
use Rattle.std.proofs.lemmas.Bool.{cases_eq, ne_eqb, lt-ltb}
use Rattle.std.proofs.lemmas.Fmt.{decimal_is_IsNumeral, decimal_nonempty, decimal_digit, first_decimal}
use Rattle.std.proofs.lemmas.Nat.{pow-add}
use Rattle.std.proofs.Math.Nat.{one-le-pow}
use Rattle.fast_float.proofs.DigitsLemmas.{digits_value-append}
use lib.IntN
use lib.Ieee.{of_int, nan, inf, fin, le, round}
use lib.Ieee.Scale.{round_same}
use lib.Ieee.Order.{round_mono}
use Rattle.fast_float.specs.Text.{Parts, text_of, nearest, IsWellFormed}
use Rattle.fast_float.proofs.Writing.{scan-text_of}
use Rattle.ryu.specs.Plain.{IsPlain}
use Rattle.json.specs.Print.{IsNumber}
use Rattle.json.proofs.Printed.Decimals.{IsNumber-decimal}
use Rattle.json.proofs.Printed.Floats.{IsNumber-plain}
use Rattle.serde_json.specs.Find.{to_float}
use Rattle.serde_json.specs.Read.{number_of, number_from, float_of}
use Rattle.serde_json.proofs.Numbers.{number_of-decimal}
use Rattle.mimic_trial.specs.Seconds.{IsFraction, IsRest, fraction_digits, exact_seconds}
use Rattle.mimic_trial.proofs.ExactSeconds.{seconds_exact}
use Rattle.mimic_json.specs.Fields.{seconds_number}

-- ---- the two forms of the text

whole_seconds : (n : ℕ) → n % 10 ^ 9 ≡ 0 → exact_seconds n ≡ decimal (n / 10 ^ 9)
unfolding exact_seconds
whole_seconds n e = rw e (append-nil (decimal (n / 10 ^ 9)))

pointed_seconds : (n : ℕ) → n % 10 ^ 9 ≢ 0 → exact_seconds n ≡ decimal (n / 10 ^ 9) ++ 46 ∷ fraction_digits 9 (n % 10 ^ 9)
unfolding exact_seconds
pointed_seconds n ne = rw (ne_eqb (n % 10 ^ 9) 0 ne) refl

same_rest : (r : ℕ) → r < 10 ^ 9 → 0 < r → (whole : ℕ) → (rest : List ℕ) → whole ≡ 0 → exact_seconds r ≡ decimal whole ++ rest → 46 ∷ fraction_digits 9 r ≡ rest
same_rest r h some whole rest z e =
    let none : r / 10 ^ 9 ≡ 0 = omega arith in
    let low : r % 10 ^ 9 ≡ r = omega arith in
    let first : 48 ∷ 46 ∷ fraction_digits 9 r ≡ exact_seconds r =
    sym (pointed_seconds r (λ q. omega arith) ∙ ap₂ (λ (w f : ℕ). decimal w ++ 46 ∷ fraction_digits 9 f) none low ∙ ap (λ (d : List ℕ). d ++ 46 ∷ fraction_digits 9 r) (decimal_digit 0 (omega arith)))
    in
    ap (drop 1) (first ∙ e ∙ ap (λ (w : ℕ). decimal w ++ rest) z ∙ ap (λ (d : List ℕ). d ++ rest) (decimal_digit 0 (omega arith)))

fraction_of : (r fraction : ℕ) (rest : List ℕ) → fraction ≡ r → 46 ∷ fraction_digits 9 r ≡ rest → IsRest fraction rest → IsFraction r (fraction_digits 9 r)
fraction_of r fraction rest same is (inl h) = let no : 46 ∷ fraction_digits 9 r ≡ [] = is ∙ h.0 in absurd (cc)
fraction_of r fraction rest same is (inr h) =
    let digits : h.0 ≡ fraction_digits 9 r = ap (drop 1) (sym (is ∙ h.1)) in
    subst (λ (ds : List ℕ). IsFraction r ds) digits (subst (λ (f : ℕ). IsFraction f h.0) same h.2)

fraction_is : (r : ℕ) → r < 10 ^ 9 → 0 < r → IsFraction r (fraction_digits 9 r)
fraction_is r h some =
    let x = seconds_exact r in
    let none : x.whole ≡ 0 = omega (arith, x.value) in
    fraction_of r x.fraction x.rest (omega (arith, x.value, none)) (same_rest r h some x.whole x.rest none x.parts) x.spelled

-- ---- the text with a point as a numeral

abbrev parts : List ℕ → List ℕ → Parts
parts w f = record { whole = w; point = true; fraction = f; exponent_negative = false; exponent = []; len = length (w ++ ((46 ∷ f) ++ [])) }

formed : (w f : List ℕ) → AllDigits 10 w → AllDigits 10 f → IsWellFormed (parts w f)
formed w f hw hf = record { whole_digits = hw; fraction_digits = hf; exponent_digits = tt; no_point = λ e. absurd (cc); no_exponent = λ _. refl; len_is = refl }

lone : (w : ℕ) → w < 2 ^ 64 → get_or (decimal w) 0 0 ≡ 48 → length (decimal w) ≡ 1
lone zero h e = ap length (decimal_digit 0 (omega arith))
lone (suc w) h e = absurd (omega (arith, first_decimal (suc w) (omega arith) h, e))

plain : (w : ℕ) (f : List ℕ) → w < 2 ^ 64 → AllDigits 10 f → 0 < length f → IsPlain (parts (decimal w) f)
plain w f h all some = record {
  well_formed = formed (decimal w) f (decimal_is_IsNumeral w h).0.1 all;
  whole = decimal_nonempty w h;
  no_leading_zero = lone w h;
  fraction = λ _. some;
  marked = λ e. absurd (cc);
}

text_is : (w f : List ℕ) → w ++ 46 ∷ f ≡ text_of (parts w f)
text_is w f = ap (λ (x : List ℕ). w ++ 46 ∷ x) (sym (append-nil f))

pub IsNumber-exact_seconds : (n : ℕ) → n < 2 ^ 64 → IsNumber (exact_seconds n)
IsNumber-exact_seconds n h =
    let w : n / 10 ^ 9 < 2 ^ 64 = omega (arith, h) in
    elim (cases_eq (n % 10 ^ 9) 0) [
      | inl e ↦ subst IsNumber (sym (whole_seconds n e)) (IsNumber-decimal (n / 10 ^ 9) w)
      | inr ne ↦
          let f = fraction_is (n % 10 ^ 9) (omega arith) (omega (arith, ne)) in
          IsNumber-plain (exact_seconds n) (false, parts (decimal (n / 10 ^ 9)) (fraction_digits 9 (n % 10 ^ 9)), pointed_seconds n ne ∙ text_is _ _, plain (n / 10 ^ 9) _ w f.numeral.1 f.numeral.0)
    ]

-- ---- what it is read as

no_minus : (ds rest : List ℕ) → AllDigits 10 ds → 0 < length ds → get_or (ds ++ rest) 0 0 ≢ 45
no_minus [] rest h some e = omega (arith, some)
no_minus (d ∷ ds) rest h some e = let digit : digit_value d < 10 = h.0 in let is : d ≡ 45 = e in grind arith

number_of-parts : (w f : List ℕ) → AllDigits 10 w → AllDigits 10 f → 0 < length w → number_of (text_of (parts w f)) ≡ number_from false (parts w f)
unfolding number_of
number_of-parts w f hw hf some = rw (ne_eqb (get_or (text_of (parts w f)) 0 0) 45 (no_minus w _ hw some)) (ap (number_from false) (scan-text_of (parts w f) (formed w f hw hf)))

as_float : (w f : List ℕ) → 0 < length w → number_from false (parts w f) ≡ float_of false (parts w f)
as_float w f some = rw (lt-ltb 0 (length w) some) refl

between : (x : Float) → T (le (fin false 0 (lib.IntN.pos 0)) x) → T (le x (fin false 1 (lib.IntN.pos 64))) → float_is_finite x ≡ true
unfolding float_is_finite le
between nan a b = absurd b
between (inf true) a b = absurd a
between (inf false) a b = absurd b
between (fin s m e) a b = refl

smallest : round binary64 false 0 1 ≡ fin false 0 (lib.IntN.pos 0)
unfolding round
smallest = refl

greatest : round binary64 false (2 ^ 64) 1 ≡ fin false 1 (lib.IntN.pos 64)
unfolding round
greatest = refl

-- the float nearest to the seconds of a `u64` of nanoseconds is finite
finite_seconds : (n : ℕ) → n < 2 ^ 64 → float_is_finite (round binary64 false n (10 ^ 9)) ≡ true
finite_seconds n h =
    let x = round binary64 false n (10 ^ 9) in
    between x (subst (λ y. T (le y x)) smallest (round_mono binary64 0 1 n (10 ^ 9) (omega arith) (omega arith) (omega arith)))
    (subst (λ y. T (le x y)) greatest (round_mono binary64 n (10 ^ 9) (2 ^ 64) 1 (omega arith) (omega arith) (omega (arith, h))))

same_worth : (w d n p q dv : ℕ) → dv ≡ w * p + d → p * q ≡ 10 ^ 9 → n ≡ w * 10 ^ 9 + d * q → dv * 1 * 10 ^ 9 ≡ n * p
same_worth w d n p q dv e f g = rw (e, g) (omega (arith, ap (λ x. d * x) f))

nearest_seconds : (w n : ℕ) (f : List ℕ) → w < 2 ^ 64 → length f ≤ 9 → n ≡ w * 10 ^ 9 + digits_value 10 f * 10 ^ (9 - length f) → nearest binary64 false (parts (decimal w) f) ≡ round binary64 false n (10 ^ 9)
nearest_seconds w n f h short e =
    let all : length f ≡ length f + 0 = omega arith in
    let nine : length f + 0 + (9 - length f) ≡ 9 = omega (arith, short) in
    let worth : digits_value 10 (decimal w ++ f) ≡ w * 10 ^ (length f + 0) + digits_value 10 f =
    digits_value-append (decimal w) f ∙ ap₂ (λ x l. x * 10 ^ l + digits_value 10 f) (decimal_is_IsNumeral w h).1 all
    in
    let power : 10 ^ (length f + 0) * 10 ^ (9 - length f) ≡ 10 ^ 9 = sym (pow-add 10 (length f + 0) (9 - length f)) ∙ ap (λ k. 10 ^ k) nine in
    round_same binary64 false (digits_value 10 (decimal w ++ f) * 1) (10 ^ (length f + 0)) n (10 ^ 9) (one-le-pow (length f + 0) 10 (omega arith)) (omega arith)
    (same_worth w (digits_value 10 f) n (10 ^ (length f + 0)) (10 ^ (9 - length f)) (digits_value 10 (decimal w ++ f)) worth power e)

pub number_of-exact_seconds : (n : ℕ) → n < 2 ^ 64 → number_of (exact_seconds n) ≡ Some (seconds_number n)
number_of-exact_seconds n h =
    let w : n / 10 ^ 9 < 2 ^ 64 = omega (arith, h) in
    elim (cases_eq (n % 10 ^ 9) 0) [
      | inl e ↦ ap number_of (whole_seconds n e) ∙ number_of-decimal (n / 10 ^ 9) w ∙ rw e refl
      | inr ne ↦
          let digits = fraction_digits 9 (n % 10 ^ 9) in
          let f = fraction_is (n % 10 ^ 9) (omega arith) (omega (arith, ne)) in
          let some = decimal_nonempty (n / 10 ^ 9) w in
          let value : n ≡ (n / 10 ^ 9) * 10 ^ 9 + digits_value 10 digits * 10 ^ (9 - length digits) = omega (arith, f.value) in
          ap number_of (pointed_seconds n ne ∙ text_is (decimal (n / 10 ^ 9)) digits)
          ∙ number_of-parts (decimal (n / 10 ^ 9)) digits (decimal_is_IsNumeral (n / 10 ^ 9) w).0.1 f.numeral.1 some ∙ as_float (decimal (n / 10 ^ 9)) digits some
          ∙ rw (nearest_seconds (n / 10 ^ 9) n digits w f.short value, finite_seconds n h, ne_eqb (n % 10 ^ 9) 0 ne) refl
    ]

-- as a float the time is the nearest one, whole or not
pub to_float-seconds_number : (n : ℕ) → to_float (seconds_number n) ≡ round binary64 false n (10 ^ 9)
unfolding of_int
to_float-seconds_number n = elim (cases_eq (n % 10 ^ 9) 0) [
  | inl e ↦ rw e (round_same binary64 false (n / 10 ^ 9) 1 n (10 ^ 9) (omega arith) (omega arith) (omega (arith, e)))
  | inr ne ↦ rw (ne_eqb (n % 10 ^ 9) 0 ne) refl
]
