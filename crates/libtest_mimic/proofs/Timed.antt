-- Rows with times are like those without, but for their times.
use Rattle.std.proofs.Common.{◌≡◌, ℕ, suc, ◌&&◌, Bool, true, false, List, [], ◌∷◌, ◌++◌, Option, None, Some, length, map, refl, sym, ap, ap₂, subst, arith}
use Rattle.std.specs.List.{AllByRecursion, flat_map}
use Rattle.libtest_mimic.specs.Prelude.{AreTimed, failed_name, failure_text, failures_if_any, failures_in, failures_text, FitsEntry, FitsLabel, FitsTime, FitsTypes, FormatSetting, has_time, IsTime, Outcome, outcomes_of, PrintedRow, Printer, row_failed_name, row_failure}
use Rattle.mimic_trial.specs.declared.formats.FormatSetting.TheVariants.{Pretty, Terse, Json}

module _ (asked : Bool) where
  pub timed-append : (xs us ys vs : List PrintedRow) → AreTimed asked xs us → AreTimed asked ys vs → AreTimed asked (xs ++ ys) (us ++ vs)
  timed-append [] [] ys vs h k = k
  timed-append [] (u ∷ us) ys vs h k = absurd h
  timed-append (x ∷ xs) [] ys vs h k = absurd h
  timed-append (x ∷ xs) (u ∷ us) ys vs h k = (h.0, timed-append xs us ys vs h.1 k)

  pub timed_length : (xs us : List PrintedRow) → AreTimed asked xs us → length us ≡ length xs
  timed_length [] [] h = refl
  timed_length [] (u ∷ us) h = absurd h
  timed_length (x ∷ xs) [] h = absurd h
  timed_length (x ∷ xs) (u ∷ us) h = ap suc (timed_length xs us h.1)

  pub timed_outcomes : (xs us : List PrintedRow) → AreTimed asked xs us → outcomes_of us ≡ outcomes_of xs
  timed_outcomes [] [] h = refl
  timed_outcomes [] (u ∷ us) h = absurd h
  timed_outcomes (x ∷ xs) [] h = absurd h
  timed_outcomes (x ∷ xs) (u ∷ us) h = ap₂ (λ (o : Outcome) os. o ∷ os) h.0.outcome (timed_outcomes xs us h.1)

  messages : (xs us : List PrintedRow) → AreTimed asked xs us → flat_map row_failure us ≡ flat_map row_failure xs
  messages [] [] h = refl
  messages [] (u ∷ us) h = absurd h
  messages (x ∷ xs) [] h = absurd h
  messages (x ∷ xs) (u ∷ us) h = ap₂ (λ s t. s ++ t) (ap₂ failure_text h.0.label h.0.outcome) (messages xs us h.1)

  names : (xs us : List PrintedRow) → AreTimed asked xs us → flat_map row_failed_name us ≡ flat_map row_failed_name xs
  names [] [] h = refl
  names [] (u ∷ us) h = absurd h
  names (x ∷ xs) [] h = absurd h
  names (x ∷ xs) (u ∷ us) h = ap₂ (λ s t. s ++ t) (ap₂ failed_name h.0.label h.0.outcome) (names xs us h.1)

  failures : (xs us : List PrintedRow) → AreTimed asked xs us → failures_if_any us ≡ failures_if_any xs
  unfolding failures_if_any
  failures xs us h = rw (timed_outcomes xs us h, messages xs us h, names xs us h) refl

  in_format : (f : FormatSetting) (xs us : List PrintedRow) → AreTimed asked xs us → failures_in f us ≡ failures_in f xs
  in_format Pretty xs us h = failures xs us h
  in_format Terse xs us h = failures xs us h
  in_format Json xs us h = refl

  -- failures are shown without times
  pub timed_failures : (p : Printer) (xs us : List PrintedRow) → AreTimed asked xs us → failures_text p us ≡ failures_text p xs
  timed_failures p xs us h = in_format p.format xs us h

  time_fits : (there : Bool) (time : Option ℕ) → IsTime there time → FitsTime time
  time_fits true None h = absurd h
  time_fits true (Some n) h = h
  time_fits false time h = subst FitsTime (sym h) tt

  pub timed_fits : (xs us : List PrintedRow) → AreTimed asked xs us → AllByRecursion FitsEntry xs → AllByRecursion FitsEntry us
  timed_fits [] [] h fits = tt
  timed_fits [] (u ∷ us) h fits = absurd h
  timed_fits (x ∷ xs) [] h fits = absurd h
  timed_fits (x ∷ xs) (u ∷ us) h fits = (
    record {
      label = subst FitsLabel (sym h.0.label) fits.0.label;
      outcome = subst FitsTypes (sym h.0.outcome) fits.0.outcome;
      nanos = time_fits (asked && has_time x.outcome) u.nanos h.0.time;
    },
    timed_fits xs us h.1 fits.1,
  )

-- ---- rows that were not written

abbrev zero_if : Bool → Option ℕ
zero_if true = Some 0
zero_if false = None

zero_is : (there : Bool) → IsTime there (zero_if there)
zero_is true = omega arith
zero_is false = refl

-- some times, which nothing shows
abbrev pub any_times : Bool → List PrintedRow → List PrintedRow
any_times asked xs = map (λ (x : PrintedRow). record x { nanos = zero_if (asked && has_time x.outcome) }) xs

pub are_any_times : (asked : Bool) (xs : List PrintedRow) → AreTimed asked xs (any_times asked xs)
are_any_times asked [] = tt
are_any_times asked (x ∷ xs) = (record { label = refl; outcome = refl; time = zero_is (asked && has_time x.outcome) }, are_any_times asked xs)
