-- Times in the lines of outcomes: where the time at the front of a text ends.
use Rattle.std.proofs.Common.{◌≡◌, ◌≢◌, inl, inr, ℕ, ◌<◌, ◌^◌, List, [], ◌∷◌, ◌++◌, Option, None, Some, decimal, get_or, refl, sym, ap, subst, ◌∙◌, append_assoc, arith}
use Rattle.std.specs.List.{AllByRecursion}
use Rattle.std.specs.Str.Parse.{AllDigits}
use Rattle.std.proofs.lemmas.Bool.{eqb-false}
use Rattle.std.proofs.lemmas.List.{append_cancel_left}
use Rattle.std.proofs.lemmas.Str.Parse.{digit_from_value}
use Rattle.mimic_trial.specs.Seconds.{IsRest, exact_seconds}
use Rattle.mimic_trial.proofs.ExactSeconds.{seconds_exact}
use Rattle.mimic_printer.specs.Json.{FitsTime, time_field, time_key}
use Rattle.mimic_events.specs.LineParts.{EndsSeconds, FollowsTime, IsOfSeconds, ReadsSeconds, ReadsTime}
use Rattle.mimic_events.proofs.Digits.{decimal_digits, one_seconds}

-- ---- digits and points

digits_of : (digits : List ℕ) → AllDigits 10 digits → AllByRecursion IsOfSeconds digits
digits_of [] h = tt
digits_of (d ∷ digits) h = let value = digit_from_value d h.0 in (inr (value.0, value.1), digits_of digits h.1)

rest_of : (fraction : ℕ) (rest : List ℕ) → IsRest fraction rest → AllByRecursion IsOfSeconds rest
rest_of fraction rest (inl h) = subst (AllByRecursion IsOfSeconds) (sym h.0) tt
rest_of fraction rest (inr h) = subst (AllByRecursion IsOfSeconds) (sym h.1) (inl refl, digits_of h.0 h.2.numeral.1)

both_of : (a b : List ℕ) → AllByRecursion IsOfSeconds a → AllByRecursion IsOfSeconds b → AllByRecursion IsOfSeconds (a ++ b)
both_of [] b h k = k
both_of (x ∷ a) b h k = (h.0, both_of a b h.1 k)

seconds_of : (nanos : ℕ) → nanos < 2 ^ 64 → AllByRecursion IsOfSeconds (exact_seconds nanos)
seconds_of nanos small =
    let x = seconds_exact nanos in
    let fits : x.whole < 2 ^ 64 = omega (arith, small, x.value) in
    subst (AllByRecursion IsOfSeconds) (sym x.parts) (both_of (decimal x.whole) x.rest (digits_of (decimal x.whole) (decimal_digits x.whole fits)) (rest_of x.fraction x.rest x.spelled))

-- two ways to end the digits and points of one text are one
one_split : (a b r s : List ℕ) → AllByRecursion IsOfSeconds a → AllByRecursion IsOfSeconds b → EndsSeconds r → EndsSeconds s → a ++ r ≡ b ++ s → (a ≡ b) × (r ≡ s)
one_split [] [] r s ha hb er es e = (refl, e)
one_split [] (y ∷ b) r s ha hb er es e = absurd (subst EndsSeconds e er hb.0)
one_split (x ∷ a) [] r s ha hb er es e = absurd (subst EndsSeconds (sym e) es ha.0)
one_split (x ∷ a) (y ∷ b) r s ha hb er es e =
    let rec = one_split a b r s ha.1 hb.1 er es cc in
    let head : x ≡ y = cc in
    (rw (head, rec.0) refl, rec.1)

-- ---- what follows a time

of_none : (b : ℕ) → b ≢ 46 → b < 48 → IsOfSeconds b → ⊥
of_none b point low (inl e) = point e
of_none b point low (inr h) = omega (arith, low, h.0)

follows_ends : (rest : List ℕ) → FollowsTime rest → EndsSeconds rest
follows_ends rest (inl e) = subst EndsSeconds (sym e) (of_none 32 (λ e. omega (arith, e)) (omega arith))
follows_ends rest (inr h) = subst EndsSeconds (sym h.1) (of_none 44 (λ e. omega (arith, e)) (omega arith))

-- it doesn't begin as a time does
no_key : (rest more : List ℕ) → FollowsTime rest → rest ≡ time_key ++ more → ⊥
no_key rest more (inl e) f = eqb-false 32 44 refl (ap (λ (z : List ℕ). get_or z 0 0) (sym e ∙ f))
no_key rest more (inr h) f = eqb-false 115 101 refl (ap (λ (z : List ℕ). get_or z 3 0) (sym h.1 ∙ f))

-- a time and what follows it are one only
pub one_time : (a b : Option ℕ) (x y : List ℕ) → FitsTime a → FitsTime b → FollowsTime x → FollowsTime y → time_field a ++ x ≡ time_field b ++ y → (a ≡ b) × (x ≡ y)
one_time None None x y f g p q e = (refl, e)
one_time None (Some k) x y f g p q e = absurd (no_key x (exact_seconds k ++ y) p (e ∙ append_assoc time_key (exact_seconds k) y))
one_time (Some n) None x y f g p q e = absurd (no_key y (exact_seconds n ++ x) q (sym e ∙ append_assoc time_key (exact_seconds n) x))
one_time (Some n) (Some k) x y f g p q e =
    let rest = append_cancel_left time_key (exact_seconds n ++ x) (exact_seconds k ++ y)
    (sym (append_assoc time_key (exact_seconds n) x) ∙ e ∙ append_assoc time_key (exact_seconds k) y) in
    let same = one_split (exact_seconds n) (exact_seconds k) x y (seconds_of n f) (seconds_of k g) (follows_ends x p) (follows_ends y q) rest in
    (ap Some (one_seconds n k f g same.0), same.1)

-- ---- the time at the front

-- no key is there, so no time is
pub no_time : (text : List ℕ) → ((rest : List ℕ) → text ≢ time_key ++ rest) → ReadsTime text (Some (None, text))
no_time text none = (tt, refl, only)
  where
    only : (time : Option ℕ) (rest : List ℕ) → FitsTime time → FollowsTime rest → text ≡ time_field time ++ rest → (time ≡ None) × (rest ≡ text)
    only None rest f p e = (refl, sym e)
    only (Some n) rest f p e = absurd (none (exact_seconds n ++ rest) (e ∙ append_assoc time_key (exact_seconds n) rest))

module _ (text more : List ℕ) (key : text ≡ time_key ++ more) where
  -- a time there is the seconds behind the key
  behind_key : (n : ℕ) (rest : List ℕ) → text ≡ time_field (Some n) ++ rest → more ≡ exact_seconds n ++ rest
  behind_key n rest e = append_cancel_left time_key more (exact_seconds n ++ rest) (sym key ∙ e ∙ append_assoc time_key (exact_seconds n) rest)

  pub time_missing : ReadsSeconds more None → ReadsTime text None
  time_missing read None rest f p e = no_key rest more p (sym e ∙ key)
  time_missing read (Some n) rest f p e = read n rest f (follows_ends rest p) (behind_key n rest e)

  pub time_found : (nanos : ℕ) (after : List ℕ) → ReadsSeconds more (Some (nanos, after)) → ReadsTime text (Some (Some nanos, after))
  time_found nanos after read = (
    read.0,
    key ∙ ap (λ (l : List ℕ). time_key ++ l) read.1 ∙ sym (append_assoc time_key (exact_seconds nanos) after),
    only,
  )
    where
      only : (time : Option ℕ) (rest : List ℕ) → FitsTime time → FollowsTime rest → text ≡ time_field time ++ rest → (time ≡ Some nanos) × (rest ≡ after)
      only None rest f p e = absurd (no_key rest more p (sym e ∙ key))
      only (Some n) rest f p e = let same = read.2 n rest f (follows_ends rest p) (behind_key n rest e) in (ap Some same.0, same.1)
