-- Seconds in exact decimal: that the text is worth its nanoseconds, and that no other text is.
use Rattle.std.proofs.Common.{◌≡◌, ◌≢◌, ℕ, zero, suc, ◌+◌, ◌-◌, ◌*◌, ◌/◌, ◌%◌, ◌^◌, ◌<◌, ◌≤◌, Bool, true, false, cond, eqb, List, [], ◌∷◌, ◌++◌, length, get_or, decimal, refl, sym, ap, subst, ◌∙◌, arith, inl, inr, rules, lit<, take, slice_set}
use Rattle.std.specs.Str.{IsAscii}
use Rattle.std.specs.Str.Parse.{AllDigits, digits_value}
use Rattle.std.specs.Char.{digit_value}
use Rattle.std.proofs.lemmas.Bool.{eqb-true, eqb-false, ne_eqb}
use Rattle.std.proofs.lemmas.Fmt.{IsAscii-decimal, IsAscii-from_digits, length-decimal-le}
use Rattle.std.proofs.lemmas.Int.Digits.{digits_value-lt}
use Rattle.std.proofs.lemmas.Str.{IsAscii-append}
use Rattle.std.proofs.lemmas.Str.Ascii.{IsAscii-cons, IsAscii-nil}
use Rattle.std.proofs.lemmas.Str.Parse.{IsNumeralModel, digit_from_value, numerals_by_weight, tells_digits}
use Rattle.std.proofs.lemmas.Bool.Decides.{nat_tests}
use Rattle.std.proofs.lemmas.List.{take_more_set}
use Rattle.std.proofs.Math.Seq.{take-append_seam}
use Rattle.std.proofs.lemmas.Nat.{pow-add, div-mul-add, mod-mul-add}
use Rattle.std.proofs.Math.Nat.{pow-suc, one-le-pow, mod-lt, div-lt_iff_lt-mul, pow-le-pow_right, mul-lt-mul_of_pos_right}
use Rattle.mimic_trial.specs.Seconds.{IsFraction, IsRest, IsExactSeconds, fraction_digits, exact_seconds}

-- ---- writing the digits of a fraction

-- one more digit
fraction_digits-suc : (k left : ℕ) → 0 < left → fraction_digits (suc k) left ≡ (48 + left / 10 ^ k) ∷ fraction_digits k (left % 10 ^ k)
unfolding fraction_digits
fraction_digits-suc k left some =
    let nonzero : eqb left 0 ≡ false = ne_eqb left 0 (λ e. omega (arith, e)) in
    rw nonzero refl

pub fraction_digits-more : (k left : ℕ) → 0 < left → left < 10 ^ k → fraction_digits k left ≡ (48 + left / 10 ^ (k - 1)) ∷ fraction_digits (k - 1) (left % 10 ^ (k - 1))
fraction_digits-more zero left some h = absurd (omega (arith, h))
fraction_digits-more (suc k) left some h =
    let back : k ≡ suc k - 1 = omega arith in
    fraction_digits-suc k left some ∙ ap (λ n. (48 + left / 10 ^ n) ∷ fraction_digits n (left % 10 ^ n)) back

-- what a digit leaves
pub record DigitTaken (k left unit : ℕ) : Type 0 where
  pub some : 0 < unit
  pub digit : left / unit < 10
  pub below : left % unit < 10 ^ (k - 1)

pub digit_taken : (k left unit : ℕ) → 0 < left → left < 10 ^ k → unit ≡ 10 ^ (k - 1) → DigitTaken k left unit
digit_taken zero left unit some h e = absurd (omega (arith, h))
digit_taken (suc k) left unit some h e =
    let back : suc k - 1 ≡ k = omega arith in
    let same : unit ≡ 10 ^ k = e ∙ ap (λ n. 10 ^ n) back in
    let positive : 0 < 10 ^ k = one-le-pow k 10 (omega arith) in
    let digit : left / 10 ^ k < 10 = (div-lt_iff_lt-mul {k = 10 ^ k} {x = left} {y = 10} positive).1 (omega (arith, h, pow-suc 10 k)) in
    record {
      some = rw same positive;
      digit = rw same digit;
      below = rw (same, back) (mod-lt left positive);
    }

-- the first nine powers of ten fit
pub unit_fits : (k : ℕ) → k ≤ 9 → 10 ^ (k - 1) < 2 ^ 64
unit_fits k h = let le : 10 ^ (k - 1) ≤ 10 ^ 8 = pow-le-pow_right {n = 10} (omega arith) {i = k - 1} {j = 8} (omega arith) in omega (arith, le)

-- if some is left, there is a place for it
pub place_left : (k left : ℕ) → left < 10 ^ k → 0 < left → 0 < k
place_left zero left h some = omega (arith, h, some)
place_left (suc k) left h some = omega arith

pub none_left : (k : ℕ) → fraction_digits k 0 ≡ []
unfolding fraction_digits
none_left zero = refl
none_left (suc k) = refl

-- the point follows what is at the front
pub point_behind : (front rest : List ℕ) → length (front ++ rest) ≡ 32 → length front ≤ 20 → take (length front + 1) (slice_set (front ++ rest) (length front) 46) ≡ front ++ 46 ∷ []
point_behind front rest long short =
    take_more_set (front ++ rest) (length front) 46 (omega (arith, long, short)) ∙ ap (λ l. l ++ 46 ∷ []) (take-append_seam front rest)

-- the whole seconds take at most eleven digits
pub whole_short : (nanos : ℕ) → nanos < 2 ^ 64 → length (decimal (nanos / 10 ^ 9)) ≤ 11
whole_short nanos fits =
    let low : nanos / 10 ^ 9 < 10 ^ 11 = omega (arith, fits) in
    length-decimal-le 11 (nanos / 10 ^ 9) (omega arith) low (omega (arith, low))

-- ---- what digits are worth

abbrev weight : List ℕ → ℕ
weight [] = 0
weight (c ∷ cs) = (c - 48) * 10 ^ length cs + weight cs

own : IsNumeralModel (AllDigits 10) weight
own = numerals_by_weight (AllDigits 10) tells_digits weight (search rules)

-- at most k digits that are worth r in k places, and do not end in 0
record FractionOf (k r : ℕ) (ds : List ℕ) : Type 0 where
  digits : AllDigits 10 ds
  len : length ds ≤ k
  value : weight ds * 10 ^ (k - length ds) ≡ r
  some : 0 < r → 0 < length ds
  last : 0 < r → get_or ds (length ds - 1) 0 ≢ 48

pow_sum : (a b c : ℕ) → a + b ≡ c → 10 ^ a * 10 ^ b ≡ 10 ^ c
pow_sum a b c e = sym (pow-add 10 a b) ∙ ap (λ n. 10 ^ n) e

digit_fits : (q : ℕ) → q < 10 → digit_value (48 + q) < 10
digit_fits q h = grind (arith, nat_tests)

one_more : (k q rest r len w : ℕ) → len ≤ k → q * 10 ^ k + rest ≡ r → w * 10 ^ (k - len) ≡ rest → ((48 + q - 48) * 10 ^ len + w) * 10 ^ (suc k - suc len) ≡ r
one_more k q rest r len w le whole ih =
    let p : 10 ^ len * 10 ^ (k - len) ≡ 10 ^ k = pow_sum len (k - len) k (omega arith) in
    let s : suc k - suc len ≡ k - len = omega arith in
    let d : 48 + q - 48 ≡ q = omega arith in
    rw (s, d) (omega (arith, ap (λ x. q * x) p, ih, whole))

last_of : (c : ℕ) (ds : List ℕ) → 0 < length ds → get_or (c ∷ ds) (length (c ∷ ds) - 1) 0 ≡ get_or ds (length ds - 1) 0
last_of c [] h = absurd (omega (arith, h))
last_of c (d ∷ ds) h =
    let e : suc (suc (length ds)) - 1 ≡ suc (length ds) = omega arith in
    let f : suc (length ds) - 1 ≡ length ds = omega arith in
    rw (e, f) refl

last_digit : (q rest : ℕ) (ds : List ℕ) → (rest ≡ 0 → ds ≡ []) → (0 < rest → 0 < length ds) → (0 < rest → get_or ds (length ds - 1) 0 ≢ 48) → (rest ≡ 0 → 0 < q) → get_or ((48 + q) ∷ ds) (length ((48 + q) ∷ ds) - 1) 0 ≢ 48
last_digit q zero ds none some last positive = rw (none refl) (λ e. let p = positive refl in omega (arith, p, e))
last_digit q (suc rest) ds none some last positive = λ e. last (omega arith) (sym (last_of (48 + q) ds (some (omega arith))) ∙ e)

has_quotient : (q p rest r : ℕ) → q * p + rest ≡ r → rest ≡ 0 → r ≢ 0 → 0 < q
has_quotient zero p rest r e z n = absurd (n (omega (arith, e, z)))
has_quotient (suc q) p rest r e z n = omega arith

fractions_at : (k r : ℕ) (b : Bool) → eqb r 0 ≡ b → r < 10 ^ suc k → FractionOf k (r % 10 ^ k) (fraction_digits k (r % 10 ^ k)) → FractionOf (suc k) r (cond b [] ((48 + r / 10 ^ k) ∷ fraction_digits k (r % 10 ^ k)))
fractions_at k r true e h ih = let z = eqb-true r 0 e in record { digits = tt; len = omega arith; value = omega (arith, z); some = λ p. absurd (omega (arith, z, p)); last = λ p. absurd (omega (arith, z, p)) }
fractions_at k r false e h ih =
    let positive : 0 < 10 ^ k = one-le-pow k 10 (omega arith) in
    let nonzero : r ≢ 0 = eqb-false r 0 e in
    let q : r / 10 ^ k < 10 = (div-lt_iff_lt-mul {k = 10 ^ k} {x = r} {y = 10} positive).1 (omega (arith, h, pow-suc 10 k)) in
    let whole : (r / 10 ^ k) * 10 ^ k + r % 10 ^ k ≡ r = omega (arith, positive) in
    record {
      digits = (digit_fits (r / 10 ^ k) q, ih.digits);
      len = omega (arith, ih.len);
      value = one_more k (r / 10 ^ k) (r % 10 ^ k) r (length (fraction_digits k (r % 10 ^ k))) (weight (fraction_digits k (r % 10 ^ k))) ih.len whole ih.value;
      some = λ p. omega arith;
      last = λ p. last_digit (r / 10 ^ k) (r % 10 ^ k) (fraction_digits k (r % 10 ^ k)) (λ z. rw z (none_left k)) ih.some ih.last (λ z. has_quotient (r / 10 ^ k) (10 ^ k) (r % 10 ^ k) r whole z nonzero);
    }

fractions : (k r : ℕ) → r < 10 ^ k → FractionOf k r (fraction_digits k r)
unfolding fraction_digits
fractions zero r h = record { digits = tt; len = omega arith; value = omega (arith, h); some = λ p. omega (arith, h, p); last = λ p. absurd (omega (arith, h, p)) }
fractions (suc k) r h = fractions_at k r (eqb r 0) refl h (fractions k (r % 10 ^ k) (mod-lt r (one-le-pow k 10 (omega arith))))

-- ---- the text is worth its nanoseconds

fraction_is : (r : ℕ) → r < 10 ^ 9 → 0 < r → IsFraction r (fraction_digits 9 r)
fraction_is r h positive =
    let f = fractions 9 r h in
    let same : weight (fraction_digits 9 r) ≡ digits_value 10 (fraction_digits 9 r) = own.same (fraction_digits 9 r) f.digits in
    record {
      numeral = (f.some positive, f.digits);
      short = f.len;
      last = f.last positive;
      value = sym f.value ∙ ap (λ v. v * 10 ^ (9 - length (fraction_digits 9 r))) same;
    }

rest_is : (r : ℕ) (b : Bool) → eqb r 0 ≡ b → r < 10 ^ 9 → IsRest r (cond b [] (46 ∷ fraction_digits 9 r))
rest_is r true e h = inl (refl, eqb-true r 0 e)
rest_is r false e h = let n = eqb-false r 0 e in inr (fraction_digits 9 r, refl, fraction_is r h (omega (arith, n)))

pub seconds_exact : (nanos : ℕ) → IsExactSeconds nanos (exact_seconds nanos)
unfolding exact_seconds
seconds_exact nanos = record {
  whole = nanos / 10 ^ 9;
  fraction = nanos % 10 ^ 9;
  rest = cond (eqb (nanos % 10 ^ 9) 0) [] (46 ∷ fraction_digits 9 (nanos % 10 ^ 9));
  parts = refl;
  spelled = rest_is (nanos % 10 ^ 9) (eqb (nanos % 10 ^ 9) 0) refl (omega arith);
  value = omega arith;
}

-- ---- and no other text is

-- digits that do not end in 0 are worth something
worth_some : (ds : List ℕ) → AllDigits 10 ds → 0 < length ds → get_or ds (length ds - 1) 0 ≢ 48 → 0 < weight ds
worth_some [] all some last = absurd (omega (arith, some))
worth_some (c ∷ []) all some last = let d = digit_from_value c all.0 in let n : c ≢ 48 = last in omega (arith, d.0, n)
worth_some (c ∷ d ∷ ds) all some last =
    let rest = worth_some (d ∷ ds) all.1 (omega arith) (λ e. last (last_of c (d ∷ ds) (omega arith) ∙ e)) in
    omega (arith, rest)

-- what k places hold
places_hold : (k : ℕ) (ds : List ℕ) → AllDigits 10 ds → length ds ≤ k → weight ds * 10 ^ (k - length ds) < 10 ^ k
places_hold k ds all short =
    let below : weight ds < 10 ^ length ds = rw (own.same ds all) (digits_value-lt 10 ds all) in
    let scaled = mul-lt-mul_of_pos_right {m = weight ds} {n = 10 ^ length ds} {k = 10 ^ (k - length ds)} below (one-le-pow (k - length ds) 10 (omega arith)) in
    rw (← pow_sum (length ds) (k - length ds) k (omega arith)) scaled

front_and_rest : (k c : ℕ) (ds : List ℕ) → length ds ≤ k → ((c - 48) * 10 ^ length ds + weight ds) * 10 ^ (suc k - suc (length ds)) ≡ (c - 48) * 10 ^ k + weight ds * 10 ^ (k - length ds)
front_and_rest k c ds short =
    let p : 10 ^ length ds * 10 ^ (k - length ds) ≡ 10 ^ k = pow_sum (length ds) (k - length ds) k (omega arith) in
    let s : suc k - suc (length ds) ≡ k - length ds = omega arith in
    rw s (omega (arith, ap (λ x. (c - 48) * x) p))

-- digits that are worth r in k places, and do not end in 0, are the digits of r
only_digits : (k r : ℕ) (ds : List ℕ) → AllDigits 10 ds → length ds ≤ k → (0 < length ds → get_or ds (length ds - 1) 0 ≢ 48) → weight ds * 10 ^ (k - length ds) ≡ r → ds ≡ fraction_digits k r
only_digits k r [] all short last value = let z : r ≡ 0 = omega (arith, value) in rw z (sym (none_left k))
only_digits zero r (c ∷ ds) all short last value = absurd (omega (arith, short))
only_digits (suc k) r (c ∷ ds) all short last value =
    let fits : length ds ≤ k = omega (arith, short) in
    let rest : ℕ = weight ds * 10 ^ (k - length ds) in
    let below : rest < 10 ^ k = places_hold k ds all.1 fits in
    let whole : r ≡ (c - 48) * 10 ^ k + rest = sym value ∙ front_and_rest k c ds fits in
    let some : 0 < r = worth (weight (c ∷ ds)) (suc k - suc (length ds)) (worth_some (c ∷ ds) all (omega arith) (last (omega arith))) value in
    let high : r / 10 ^ k ≡ c - 48 = ap (λ n. n / 10 ^ k) whole ∙ div-mul-add (c - 48) (10 ^ k) rest below in
    let low : r % 10 ^ k ≡ rest = ap (λ n. n % 10 ^ k) whole ∙ mod-mul-add (c - 48) (10 ^ k) rest below in
    let tail : ds ≡ fraction_digits k rest = only_digits k rest ds all.1 fits (λ p e. last (omega arith) (last_of c ds p ∙ e)) refl in
    let digit = digit_from_value c all.0 in
    let first : 48 + r / 10 ^ k ≡ c = omega (arith, high, digit.0) in
    let more : fraction_digits (suc k) r ≡ (48 + r / 10 ^ k) ∷ fraction_digits k (r % 10 ^ k) = fraction_digits-suc k r some in
    sym (more ∙ ap (λ x. x ∷ fraction_digits k (r % 10 ^ k)) first ∙ ap (λ n. c ∷ fraction_digits k n) low ∙ ap (λ l. c ∷ l) (sym tail))
  where
    worth : (w e : ℕ) → 0 < w → w * 10 ^ e ≡ r → 0 < r
    worth w e p h = let m = mul-lt-mul_of_pos_right {m = 0} {n = w} {k = 10 ^ e} p (one-le-pow e 10 (omega arith)) in omega (arith, m, h)

only_fraction : (fraction : ℕ) (digits : List ℕ) → IsFraction fraction digits → (fraction < 10 ^ 9) × (0 < fraction) × (digits ≡ fraction_digits 9 fraction)
only_fraction fraction digits f =
    let all = f.numeral.1 in
    let value : weight digits * 10 ^ (9 - length digits) ≡ fraction = ap (λ v. v * 10 ^ (9 - length digits)) (own.same digits all) ∙ sym f.value in
    let some = worth_some digits all f.numeral.0 f.last in
    let m = mul-lt-mul_of_pos_right {m = 0} {n = weight digits} {k = 10 ^ (9 - length digits)} some (one-le-pow (9 - length digits) 10 (omega arith)) in
    (subst (λ n. n < 10 ^ 9) value (places_hold 9 digits all f.short), omega (arith, m, value), only_digits 9 fraction digits all f.short (λ _. f.last) value)

only_rest : (fraction : ℕ) (rest : List ℕ) → IsRest fraction rest → (fraction < 10 ^ 9) × (rest ≡ cond (eqb fraction 0) [] (46 ∷ fraction_digits 9 fraction))
only_rest fraction rest (inl h) = (omega (arith, h.1), rw (h.1, h.0) refl)
only_rest fraction rest (inr h) =
    let f = only_fraction fraction h.0 h.2 in
    let nonzero : eqb fraction 0 ≡ false = ne_eqb fraction 0 (λ e. omega (arith, e, f.1)) in
    (f.0, rw nonzero (h.1 ∙ ap (λ l. 46 ∷ l) f.2))

pub seconds_only : (nanos : ℕ) (text : List ℕ) → IsExactSeconds nanos text → text ≡ exact_seconds nanos
unfolding exact_seconds
seconds_only nanos text h =
    let rest = only_rest h.fraction h.rest h.spelled in
    let whole : nanos / 10 ^ 9 ≡ h.whole = ap (λ n. n / 10 ^ 9) h.value ∙ div-mul-add h.whole (10 ^ 9) h.fraction rest.0 in
    let fraction : nanos % 10 ^ 9 ≡ h.fraction = ap (λ n. n % 10 ^ 9) h.value ∙ mod-mul-add h.whole (10 ^ 9) h.fraction rest.0 in
    rw (whole, fraction) (h.parts ∙ ap (λ l. decimal h.whole ++ l) rest.1)

-- ---- the text is ASCII

rest_ascii : (rest : List ℕ) (fraction : ℕ) → IsRest fraction rest → IsAscii rest
rest_ascii rest fraction (inl h) = subst IsAscii (sym h.0) IsAscii-nil
rest_ascii rest fraction (inr h) = subst IsAscii (sym h.1) (IsAscii-cons 46 h.0 (lit< tt) (IsAscii-from_digits h.0 h.2.numeral.1))

pub seconds_ascii : (nanos : ℕ) → nanos < 2 ^ 64 → IsAscii (exact_seconds nanos)
seconds_ascii nanos small =
    let h = seconds_exact nanos in
    let fits : h.whole < 2 ^ 64 = omega (arith, h.value, small) in
    subst IsAscii (sym h.parts) (IsAscii-append (decimal h.whole) h.rest (IsAscii-decimal h.whole fits) (rest_ascii h.rest h.fraction h.spelled))
