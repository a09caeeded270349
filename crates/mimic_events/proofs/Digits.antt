-- Numbers and seconds: where the digits at the front of a text end, and what they are worth.
use Rattle.std.proofs.Common.{◌≡◌, ◌≢◌, ℕ, zero, suc, inl, inr, ◌<◌, ◌≤◌, ◌^◌, ◌+◌, ◌-◌, ◌*◌, List, [], ◌∷◌, ◌++◌, Some, None, length, take, get_or, refl, sym, ap, ap₂, subst, ◌∙◌, append_assoc, arith, decimal, rules}
use Rattle.std.specs.Int.{IsInRange}
use Rattle.std.proofs.Math.Nat.{mul-lt-mul_of_pos_right, one-le-pow}
use Rattle.std.proofs.lemmas.Nat.{pow-add}
use Rattle.std.proofs.lemmas.Str.{digit_value_digit}
use Rattle.std.proofs.lemmas.Int.Digits.{digits_value_more}
use Rattle.std.specs.Str.Parse.{AllDigits, IsNumeral, digits_value}
use Rattle.std.proofs.lemmas.Str.Parse.{digit_from_value, digits_value-take-le, numerals_by_value, tells_by_index, tells_digits, digits_value_short}
use Rattle.std.proofs.lemmas.Fmt.{decimal_digit, decimal_injective, decimal_is_IsNumeral, decimal_nonempty, decimal-digits_value, digits_decimal, first_decimal}
use Rattle.std.proofs.lemmas.List.{append-nil, get_or-take, length-take, take-append-le}
use Rattle.mimic_trial.specs.Seconds.{IsFraction, IsRest, IsExactSeconds, exact_seconds}
use Rattle.mimic_trial.proofs.ExactSeconds.{seconds_exact, seconds_only}
use Rattle.mimic_events.specs.LineParts.{EndsNumber, EndsSeconds, ReadsDigits, ReadsFraction, ReadsNumber, ReadsSeconds, SplitsDigits}
use Rattle.mimic_events.specs.Reading.{Decodes, IsNumber, IsSeconds}

-- two ways to end the digits of one text are one
pub one_end : (a b r s : List ℕ) → AllDigits 10 a → AllDigits 10 b → EndsNumber r → EndsNumber s → a ++ r ≡ b ++ s → (a ≡ b) × (r ≡ s)
one_end [] [] r s ha hb er es e = (refl, e)
one_end [] (y ∷ b) r s ha hb er es e = absurd (let d = digit_from_value y hb.0 in subst EndsNumber e er d.0 d.1)
one_end (x ∷ a) [] r s ha hb er es e = absurd (let d = digit_from_value x ha.0 in subst EndsNumber (sym e) es d.0 d.1)
one_end (x ∷ a) (y ∷ b) r s ha hb er es e =
    let rec = one_end a b r s ha.1 hb.1 er es cc in
    let head : x ≡ y = cc in
    (rw (head, rec.0) refl, rec.1)

pub decimal_digits : (n : ℕ) → n < 2 ^ 64 → AllDigits 10 (decimal n)
decimal_digits n h = digits_decimal (numerals_by_value (AllDigits 10) tells_digits) n h

pub front_digits : (bytes : List ℕ) (len : ℕ) → len ≤ length bytes → ((i : ℕ) → i < len → IsInRange 48 57 (get_or bytes i 0)) → AllDigits 10 (take len bytes)
front_digits bytes len le h =
    (numerals_by_value (λ ds. (i : ℕ) → i < length ds → IsInRange 48 57 (get_or ds i 0)) tells_by_index).to (take len bytes) (λ i lt.
    let below : i < len = omega (arith, length-take len bytes) in rw (get_or-take len bytes i 0 below) (h i below))

pub ends_at : (rest : List ℕ) → ((48 ≤ get_or rest 0 0) → (get_or rest 0 0 ≤ 57) → ⊥) → EndsNumber rest
ends_at [] h = tt
ends_at (b ∷ rest) h = h

-- the number of all digits at the front is the number there
pub number_found : (bytes digits rest : List ℕ) (n : ℕ) → SplitsDigits bytes digits rest → Decodes IsNumber digits (Some n) → ReadsNumber bytes (Some (n, rest))
number_found bytes digits rest n s d =
    let whole : bytes ≡ decimal n ++ rest = s.parts ∙ ap (λ (x : List ℕ). x ++ rest) d.0.1 in (
      d.0.0,
      whole,
      s.stop,
      λ m other fits ends e.
          let same = one_end (decimal m) (decimal n) other rest (decimal_digits m fits) (decimal_digits n d.0.0) ends s.stop (sym e ∙ whole) in
          (decimal_injective m n fits d.0.0 same.0, same.1),
    )

pub number_none : (bytes digits rest : List ℕ) → SplitsDigits bytes digits rest → Decodes IsNumber digits None → ReadsNumber bytes None
number_none bytes digits rest s d m other fits ends e =
    let same = one_end (decimal m) digits other rest (decimal_digits m fits) s.digits ends s.stop (sym e ∙ s.parts) in
    d m (fits, sym same.0)

-- the digits up to the next one, which is added at the end
pub one_more : (digits : List ℕ) (i : ℕ) → i < length digits → IsInRange 48 57 (get_or digits i 0)
    → digits_value 10 (take (i + 1) digits) ≡ digits_value 10 (take i digits) * 10 + (get_or digits i 0 - 48)
one_more digits i lt h = omega (arith, digits_value_more 10 digits i lt, digit_value_digit (get_or digits i 0) h)

-- digits at the front are among all of them
front_within : (digits rest : List ℕ) (i : ℕ) → EndsNumber rest → ((k : ℕ) → k < i → IsInRange 48 57 (get_or (digits ++ rest) k 0)) → i ≤ length digits
front_within digits rest zero ends h = omega arith
front_within [] [] (suc i) ends h = absurd (let d = h 0 (omega arith) in omega (arith, d.0))
front_within [] (b ∷ rest) (suc i) ends h = absurd (let d = h 0 (omega arith) in ends d.0 d.1)
front_within (d ∷ digits) rest (suc i) ends h = let rec = front_within digits rest i ends (λ k lt. h (suc k) (omega (arith, lt))) in omega (arith, rec)

pub too_large : (bytes : List ℕ) (i : ℕ) → i < length bytes → ((k : ℕ) → k < i → IsInRange 48 57 (get_or bytes k 0)) → IsInRange 48 57 (get_or bytes i 0)
    → 2 ^ 64 ≤ digits_value 10 (take i bytes) * 10 + (get_or bytes i 0 - 48) → ReadsDigits bytes None
too_large bytes i lt before last large front rest s =
    let digits : (k : ℕ) → k < i + 1 → IsInRange 48 57 (get_or bytes k 0) = λ k below. search (rules, before, last) in
    let within : i + 1 ≤ length front = front_within front rest (i + 1) s.stop (subst (λ (b : List ℕ). (k : ℕ) → k < i + 1 → IsInRange 48 57 (get_or b k 0)) s.parts digits) in
    let same : take (i + 1) bytes ≡ take (i + 1) front = ap (take (i + 1)) s.parts ∙ take-append-le (i + 1) front rest within in
    omega (arith, large, one_more bytes i lt last, ap (digits_value 10) same, digits_value-take-le 10 front (i + 1) (omega arith))

pub number_over : (bytes : List ℕ) → ReadsDigits bytes None → ReadsNumber bytes None
number_over bytes d n rest fits ends e =
    let is = decimal_is_IsNumeral n fits in
    let large = d (decimal n) rest (record { parts = e; digits = is.0.1; stop = ends }) in
    omega (arith, large, is.1, fits)

-- a number that begins with a zero is one digit
pub leading_zero : (text : List ℕ) (n : ℕ) → IsNumber n text → get_or text 0 0 ≡ 48 → length text ≡ 1
leading_zero text zero h first = ap length (h.1 ∙ decimal_digit 0 (omega arith))
leading_zero text (suc n) h first = absurd (omega (arith, first, ap (λ (t : List ℕ). get_or t 0 0) h.1, first_decimal (suc n) (omega arith) h.0))

-- what a number has: a digit, and more only if the first is not a zero
pub spelled_well : (digits : List ℕ) (n : ℕ) → IsNumber n digits → (0 < length digits) × (1 < length digits → get_or digits 0 0 ≢ 48)
spelled_well digits n h = (omega (arith, ap length h.1, decimal_nonempty n h.0), λ long first. omega (arith, long, leading_zero digits n h first))

-- digits that don't begin with such a zero are the number that they write
pub number_is : (digits : List ℕ) (n : ℕ) → IsNumeral 10 digits → (get_or digits 0 0 ≡ 48 → length digits ≤ 1) → n < 2 ^ 64 → n ≡ digits_value 10 digits → Decodes IsNumber digits (Some n)
number_is digits n numeral plain fits value =
    let own = numerals_by_value (AllDigits 10) tells_digits in
    let back : decimal (digits_value 10 digits) ≡ digits = decimal-digits_value own digits numeral.1 numeral.0 (λ e. omega (arith, plain e, numeral.0)) (omega (arith, fits, value)) in (
      (fits, sym back ∙ ap decimal (sym value)),
      λ m h. sym (decimal_is_IsNumeral m h.0).1 ∙ ap (digits_value 10) (sym h.1) ∙ sym value,
    )

pub few_fit : (digits : List ℕ) → IsNumeral 10 digits → length digits ≤ 9 → digits_value 10 digits < 2 ^ 64
few_fit digits numeral short = let own = numerals_by_value (AllDigits 10) tells_digits in omega (arith, digits_value_short own digits 9 numeral.1 short)

scaled_fits : (value digits : ℕ) → digits ≤ 9 → value < 10 ^ digits → value * 10 ^ (9 - digits) < 10 ^ 9
scaled_fits value digits le lt =
    let whole : 10 ^ digits * 10 ^ (9 - digits) ≡ 10 ^ 9 = let all : digits + (9 - digits) ≡ 9 = omega (arith, le) in sym (pow-add 10 digits (9 - digits)) ∙ ap (λ (k : ℕ). 10 ^ k) all in
    subst (λ (k : ℕ). value * 10 ^ (9 - digits) < k) whole (mul-lt-mul_of_pos_right {m = value} {n = 10 ^ digits} {k = 10 ^ (9 - digits)} lt (one-le-pow (9 - digits) 10 (omega arith)))

pub fraction_fits : (digits : List ℕ) (value : ℕ) → length digits ≤ 9 → IsNumeral 10 digits → value ≡ digits_value 10 digits → value * 10 ^ (9 - length digits) < 10 ^ 9
fraction_fits digits value short numeral is =
    let own = numerals_by_value (AllDigits 10) tells_digits in
    let below : digits_value 10 digits < 10 ^ length digits = digits_value_short own digits (length digits) numeral.1 (omega arith) in
    scaled_fits value (length digits) short (rw is below)

-- ---- the nanoseconds at the front

ends_number : (rest : List ℕ) → EndsSeconds rest → EndsNumber rest
ends_number [] ends = tt
ends_number (b ∷ rest) ends = λ low high. ends (inr (low, high))

pub rest_ends : (fraction : ℕ) (rest : List ℕ) → IsRest fraction rest → EndsNumber rest
rest_ends fraction rest (inl h) = subst EndsNumber (sym h.0) tt
rest_ends fraction rest (inr h) = subst EndsNumber (sym h.1) (λ a b. omega arith)

rest_ends_before : (fraction : ℕ) (text rest : List ℕ) → IsRest fraction text → EndsSeconds rest → EndsNumber (text ++ rest)
rest_ends_before fraction text rest (inl h) ends = subst (λ (t : List ℕ). EndsNumber (t ++ rest)) (sym h.0) (ends_number rest ends)
rest_ends_before fraction text rest (inr h) ends = subst (λ (t : List ℕ). EndsNumber (t ++ rest)) (sym h.1) (λ a b. omega arith)

pub no_point : (bytes : List ℕ) → ((rest : List ℕ) → bytes ≢ 46 ∷ rest) → ReadsFraction bytes (Some (0, bytes))
no_point bytes none = (([], inl (refl, refl), refl), only)
  where
    only : (n : ℕ) (text rest : List ℕ) → IsRest n text → EndsSeconds rest → bytes ≡ text ++ rest → (n ≡ 0) × (rest ≡ bytes)
    only n text rest (inl h) ends e = (h.1, sym (e ∙ ap (λ (t : List ℕ). t ++ rest) h.0))
    only n text rest (inr h) ends e = absurd (none (h.0 ++ rest) (e ∙ ap (λ (t : List ℕ). t ++ rest) h.1))

module _ (bytes more : List ℕ) (point : bytes ≡ 46 ∷ more) where
  -- behind a point the digits of a fraction are all that are there
  behind_point : (n : ℕ) (text rest : List ℕ) → IsRest n text → EndsSeconds rest → bytes ≡ text ++ rest → (digits : List ℕ) × IsFraction n digits × SplitsDigits more digits rest
  behind_point n text rest (inl h) ends e = absurd (subst EndsSeconds (sym (ap (λ (t : List ℕ). t ++ rest) h.0) ∙ sym e ∙ point) ends (inl refl))
  behind_point n text rest (inr h) ends e =
      let parts : 46 ∷ more ≡ 46 ∷ (h.0 ++ rest) = sym point ∙ e ∙ ap (λ (t : List ℕ). t ++ rest) h.1 in
      (h.0, h.2, record { parts = cc; digits = h.2.numeral.1; stop = ends_number rest ends })

  pub fraction_over : ReadsDigits more None → ReadsFraction bytes None
  fraction_over d n text rest is ends e =
      let (digits, f, s) = behind_point n text rest is ends e in
      omega (arith, d digits rest s, few_fit digits f.numeral f.short)

  module _ (digits after : List ℕ) (s : SplitsDigits more digits after) where
    pub fraction_wrong : ((n : ℕ) → IsFraction n digits → ⊥) → ReadsFraction bytes None
    fraction_wrong none n text rest is ends e =
        let (other, f, t) = behind_point n text rest is ends e in
        let same = one_end other digits rest after t.digits s.digits t.stop s.stop (sym t.parts ∙ s.parts) in
        none n (subst (IsFraction n) same.0 f)

    pub fraction_found : (nanos : ℕ) → IsFraction nanos digits → ReadsFraction bytes (Some (nanos, after))
    fraction_found nanos g = ((46 ∷ digits, inr (digits, refl, g), point ∙ ap (λ (t : List ℕ). 46 ∷ t) s.parts), only)
      where
        only : (n : ℕ) (text rest : List ℕ) → IsRest n text → EndsSeconds rest → bytes ≡ text ++ rest → (n ≡ nanos) × (rest ≡ after)
        only n text rest is ends e =
            let (other, f, t) = behind_point n text rest is ends e in
            let same = one_end other digits rest after t.digits s.digits t.stop s.stop (sym t.parts ∙ s.parts) in
            (f.value ∙ ap (λ (d : List ℕ). digits_value 10 d * 10 ^ (9 - length d)) same.0 ∙ sym g.value, same.1)

-- the parts of seconds are those that a reader finds
module _ (bytes : List ℕ) (n : ℕ) (rest : List ℕ) (fits : n < 2 ^ 64) (ends : EndsSeconds rest) (e : bytes ≡ exact_seconds n ++ rest) where
  exact : IsExactSeconds n (exact_seconds n)
  exact = seconds_exact n

  small : exact.whole < 2 ^ 64
  small = omega (arith, fits, exact.value)

  whole_ends : EndsNumber (exact.rest ++ rest)
  whole_ends = rest_ends_before exact.fraction exact.rest rest exact.spelled ends

  whole_parts : bytes ≡ decimal exact.whole ++ (exact.rest ++ rest)
  whole_parts = e ∙ ap (λ (t : List ℕ). t ++ rest) exact.parts ∙ append_assoc (decimal exact.whole) exact.rest rest

  pub no_whole : ReadsNumber bytes None → ⊥
  no_whole read = read exact.whole (exact.rest ++ rest) small whole_ends whole_parts

  module _ (whole : ℕ) (more : List ℕ) (read : ReadsNumber bytes (Some (whole, more))) where
    same_whole : (exact.whole ≡ whole) × (exact.rest ++ rest ≡ more)
    same_whole = read.3 exact.whole (exact.rest ++ rest) small whole_ends whole_parts

    pub no_rest : ReadsFraction more None → ⊥
    no_rest f = f exact.fraction exact.rest rest exact.spelled ends (sym same_whole.1)

    pub same_parts : (fraction : ℕ) (after : List ℕ) → ReadsFraction more (Some (fraction, after)) → (n ≡ whole * 10 ^ 9 + fraction) × (rest ≡ after)
    same_parts fraction after f =
        let same = f.1 exact.fraction exact.rest rest exact.spelled ends (sym same_whole.1) in
        (omega (arith, exact.value, same_whole.0, same.0), same.1)

pub seconds_read : (bytes : List ℕ) (whole : ℕ) (more : List ℕ) (fraction : ℕ) (after : List ℕ) (nanos : ℕ) → ReadsNumber bytes (Some (whole, more))
    → ReadsFraction more (Some (fraction, after)) → nanos < 2 ^ 64 → nanos ≡ whole * 10 ^ 9 + fraction → ReadsSeconds bytes (Some (nanos, after))
seconds_read bytes whole more fraction after nanos read f fits value =
    let exact : decimal whole ++ f.0.0 ≡ exact_seconds nanos = seconds_only nanos (decimal whole ++ f.0.0) (record { whole = whole; fraction = fraction; rest = f.0.0; parts = refl; spelled = f.0.1; value = value }) in (
      fits,
      read.1 ∙ ap (λ (t : List ℕ). decimal whole ++ t) f.0.2 ∙ sym (append_assoc (decimal whole) f.0.0 after) ∙ ap (λ (t : List ℕ). t ++ after) exact,
      λ n rest small ends e. let same = same_parts bytes n rest small ends e whole more read fraction after f in (same.0 ∙ sym value, same.1),
    )

-- seconds that are not all of a text, and none
pub seconds_go_on : (text rest : List ℕ) (nanos : ℕ) → ReadsSeconds text (Some (nanos, rest)) → rest ≢ [] → Decodes IsSeconds text None
seconds_go_on text rest nanos read some n h = some (sym (read.2 n [] h.0 tt (h.1 ∙ sym (append-nil (exact_seconds n)))).1)

pub no_seconds : (text : List ℕ) → ReadsSeconds text None → Decodes IsSeconds text None
no_seconds text read n h = read n [] h.0 tt (h.1 ∙ sym (append-nil (exact_seconds n)))

-- what follows the whole seconds is worth one number only
one_fraction : (a b : ℕ) (rest : List ℕ) → IsRest a rest → IsRest b rest → a ≡ b
one_fraction a b rest (inl h) (inl k) = h.1 ∙ sym k.1
one_fraction a b rest (inl h) (inr k) = let e : [] ≡ 46 ∷ k.0 = sym h.0 ∙ k.1 in absurd cc
one_fraction a b rest (inr h) (inl k) = let e : 46 ∷ h.0 ≡ [] = sym h.1 ∙ k.0 in absurd cc
one_fraction a b rest (inr h) (inr k) =
    let e : 46 ∷ h.0 ≡ 46 ∷ k.0 = sym h.1 ∙ k.1 in
    let same : h.0 ≡ k.0 = cc in
    h.2.value ∙ ap (λ (d : List ℕ). digits_value 10 d * 10 ^ (9 - length d)) same ∙ sym k.2.value

-- seconds are worth one number of nanoseconds only
pub one_seconds : (a b : ℕ) → a < 2 ^ 64 → b < 2 ^ 64 → exact_seconds a ≡ exact_seconds b → a ≡ b
one_seconds a b f g e =
    let x = seconds_exact a in
    let y : IsExactSeconds b (exact_seconds a) = subst (IsExactSeconds b) (sym e) (seconds_exact b) in
    let fits : x.whole < 2 ^ 64 = omega (arith, f, x.value) in
    let also : y.whole < 2 ^ 64 = omega (arith, g, y.value) in
    let same = one_end (decimal x.whole) (decimal y.whole) x.rest y.rest (decimal_digits x.whole fits) (decimal_digits y.whole also)
    (rest_ends x.fraction x.rest x.spelled) (rest_ends y.fraction y.rest y.spelled) (sym x.parts ∙ y.parts) in
    let whole : x.whole ≡ y.whole = decimal_injective x.whole y.whole fits also same.0 in
    let fraction : x.fraction ≡ y.fraction = one_fraction x.fraction y.fraction y.rest (subst (IsRest x.fraction) same.1 x.spelled) y.spelled in
    x.value ∙ ap₂ (λ (w r : ℕ). w * 10 ^ 9 + r) whole fraction ∙ sym y.value
