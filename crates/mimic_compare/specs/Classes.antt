-- What became of each kind and name from an old report to a new one (our own).
use Rattle.std.specs.Prelude.{◌==◌, ◌&&◌, ◌||◌, ℕ, Bool, if◌then◌else◌, nat_lt, not, List, [], ◌∷◌, ◌++◌, count_by, filter, length, map}
use Rattle.std.specs.List.{list_any}
use Rattle.mimic_trial.specs.declared.outcome.Outcome.{Outcome}
use Rattle.mimic_trial.specs.Count.{is_failed, is_ignored_outcome}
use Rattle.mimic_trial.specs.Same.{same_outcome}
use Rattle.mimic_printer.specs.Json.{Entry}
use Rattle.mimic_printer.specs.Row.{Label}
use Rattle.mimic_events.specs.Key.{same_label}
use Rattle.mimic_compare.specs.Fates.{Fate, fates_with}
use Rattle.mimic_compare.specs.declared.class.Class.{Class}
use Rattle.mimic_compare.specs.declared.class.Class.TheVariants.{NewFailure, Regressed, Missing, NotRun, New, NotRunBefore, NewlyIgnored, NewlyPassing, AnotherMessage, StillFailing, Unchanged}

-- ---- kinds and names

-- each of the labels once, in the order in which they first come
abbrev pub distinct : List Label → List Label
distinct [] = []
distinct (label ∷ labels) = label ∷ filter (λ other. not (same_label label other)) (distinct labels)

abbrev pub labels_in : List Entry → List Label
labels_in entries = map (λ entry. entry.label) entries

-- ---- classes

-- how many of the rows failed
abbrev pub failures : List Fate → ℕ
failures fates = count_by (λ fate. is_failed fate.outcome) fates

-- how many of the rows were ignored
abbrev pub ignored : List Fate → ℕ
ignored fates = count_by (λ fate. is_ignored_outcome fate.outcome) fates

-- how many of the rows have this outcome
abbrev pub frequency : Outcome → List Fate → ℕ
frequency outcome fates = count_by (λ fate. same_outcome outcome fate.outcome) fates

-- the row failed, and one list has failures with its message more often than the other
abbrev pub is_other : List Fate → List Fate → Fate → Bool
is_other old new fate = is_failed fate.outcome && not (frequency fate.outcome old == frequency fate.outcome new)

-- one list has some failure more often than the other
abbrev pub have_other_messages : List Fate → List Fate → Bool
have_other_messages old new = list_any (is_other old new) (old ++ new)

-- what became of a kind and a name with these rows: the first that fits; `judged` means that all trials are in both reports
abbrev pub class_of : Bool → List Fate → List Fate → Class
class_of judged old new =
    if nat_lt (failures old) (failures new) then (if failures old == length old then NewFailure else Regressed)
    else (if nat_lt (length new) (length old) then (if judged then Missing else NotRun)
    else (if nat_lt (length old) (length new) then (if judged then New else NotRunBefore)
    else (if nat_lt (ignored old) (ignored new) then NewlyIgnored
    else (if nat_lt (failures new) (failures old) || nat_lt (ignored new) (ignored old) then NewlyPassing
    else (if have_other_messages old new then AnotherMessage
    else (if nat_lt 0 (failures new) then StillFailing
    else Unchanged))))))

-- ---- reports

-- what is reported for a kind and a name: its class, and what the rows of both reports say
pub record Compared : Type 0 where
  pub label : Label
  pub class : Class
  pub old : List Fate
  pub new : List Fate

abbrev pub compared : Bool → Label → List Fate → List Fate → Compared
compared judged label old new = record { label = label; class = class_of judged old new; old = old; new = new }

-- each kind and name of both reports once: those of the old rows first
abbrev pub comparisons : Bool → List Entry → List Entry → List Compared
comparisons judged old new =
    map (λ label. compared judged label (fates_with label old) (fates_with label new)) (distinct (labels_in old ++ labels_in new))
