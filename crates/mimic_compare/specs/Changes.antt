-- Which benchmarks and trials take another time in a new report than in an old one (our own).
use Rattle.std.specs.Prelude.{ℕ, ◌*◌, ◌==◌, ◌&&◌, ◌||◌, Bool, nat_le, nat_lt, if◌then◌else◌, List, [], ◌∷◌, ◌++◌, IsPermutation, Option, None, Some, option_to_list}
use Rattle.std.specs.List.{flat_map}
use Rattle.std.specs.List.Sorted.{IsSortedBy, IsStableBy}
use Rattle.std.specs.Int.{abs_diff}
use Rattle.mimic_trial.specs.declared.outcome.Outcome.{Outcome}
use Rattle.mimic_trial.specs.declared.outcome.Outcome.TheVariants as outcome
use Rattle.mimic_trial.specs.declared.outcome.Measurement.{Measurement}
use Rattle.mimic_printer.specs.Row.{Label}
use Rattle.mimic_compare.specs.Classes.{Compared}
use Rattle.mimic_compare.specs.Fates.{Fate}
use Rattle.mimic_compare.specs.declared.change.Quantity.{Quantity}
use Rattle.mimic_compare.specs.declared.change.Quantity.TheVariants.{Average, Time}

-- ---- changes

-- an average of a benchmark, or the time of a trial, in nanoseconds, in both reports
pub record Change : Type 0 where
  pub label : Label
  pub quantity : Quantity
  pub old : ℕ
  pub new : ℕ

-- the greater number is more than the other one times the factor, which is in hundredths
abbrev pub is_beyond : ℕ → ℕ → ℕ → Bool
is_beyond factor old new = nat_lt (factor * old) (100 * new) || nat_lt (factor * new) (100 * old)

-- the averages differ by more than either deviation
abbrev pub stands_out : Measurement → Measurement → Bool
stands_out old new = nat_lt old.variance (abs_diff old.avg new.avg) && nat_lt new.variance (abs_diff old.avg new.avg)

-- the times differ by ten milliseconds or more
abbrev pub is_noticeable : ℕ → ℕ → Bool
is_noticeable old new = nat_le 10000000 (abs_diff old new)

-- the one element of a list, if it has no other
abbrev pub only : {X : Type 0} → List X → Option X
only [] = None
only (x ∷ []) = Some x
only (x ∷ (y ∷ xs)) = None

abbrev pub measurement_of : Outcome → List Measurement
measurement_of (outcome.Measured m) = m ∷ []
measurement_of other = []

-- what was measured in the rows
abbrev pub measurements : List Fate → List Measurement
measurements fates = flat_map (λ fate. measurement_of fate.outcome) fates

-- the times that the rows have
abbrev pub times_taken : List Fate → List ℕ
times_taken fates = flat_map (λ fate. option_to_list fate.nanos) fates

-- the change of a benchmark's average, if it is beyond the factor and stands out
abbrev pub average_changes : ℕ → Label → Option Measurement → Option Measurement → List Change
average_changes factor label (Some old) (Some new) = if is_beyond factor old.avg new.avg && stands_out old new
    then record { label = label; quantity = Average; old = old.avg; new = new.avg } ∷ [] else []
average_changes factor label old new = []

-- the change of a trial's time, if it is beyond the factor and noticeable
abbrev pub time_changes : ℕ → Label → Option ℕ → Option ℕ → List Change
time_changes factor label (Some old) (Some new) = if is_beyond factor old new && is_noticeable old new
    then record { label = label; quantity = Time; old = old; new = new } ∷ [] else []
time_changes factor label old new = []

-- the changes of a kind and a name: of the average if it was measured once in each report, and of the time if one row in each has a
-- time
abbrev pub changes_of : ℕ → Compared → List Change
changes_of factor c = average_changes factor c.label (only (measurements c.old)) (only (measurements c.new))
    ++ time_changes factor c.label (only (times_taken c.old)) (only (times_taken c.new))

-- the changes of all kinds and names
abbrev pub changes_in : ℕ → List Compared → List Change
changes_in factor found = flat_map (changes_of factor) found

abbrev pub is_slower : Change → Bool
is_slower c = nat_lt c.old c.new

-- ---- their order

-- what the new number counts in a ratio to the old one: a ratio to 0 is that of 1 to 0, whatever the new number
abbrev pub numerator : Change → ℕ
numerator c = if c.old == 0 then 1 else c.new

-- the ratio of the new number to the old one is greater in the first change; a ratio to 0 is greater than any other
abbrev pub is_greater : Change → Change → Bool
is_greater a b = nat_lt (numerator b * a.old) (numerator a * b.old)

-- these are the same changes, the greatest ratio first, and equal ratios in the order that they had
pub record AreRanked (changes ranked : List Change) : Type 0 where
  pub same : IsPermutation changes ranked
  pub falling : IsSortedBy is_greater ranked
  pub stable : IsStableBy is_greater changes ranked
