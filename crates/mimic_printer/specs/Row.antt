-- The rows of a report: what it shows of a trial, and what became of the trial.
use Rattle.std.specs.Prelude.{ℕ, List, [], map, None, Option, slice_index_or, string_bytes}
use Rattle.mimic_trial.specs.declared.outcome.Outcome.{Outcome}
use Rattle.mimic_trial.specs.declared.trial.TestInfo.{TestInfo}
use Rattle.mimic_trial.specs.declared.trial.Trial.{Trial}
use Rattle.mimic_trial.specs.Places.{Placed}
use Rattle.mimic_trial.specs.Trial.{info_of}

-- ---- what comes before an outcome

-- what a report shows of a trial
pub record Label : Type 0 where
  pub kind : List ℕ
  pub name : List ℕ

abbrev pub label_of : TestInfo → Label
label_of info = record { kind = string_bytes info.kind; name = string_bytes info.name }

-- what a report shows of the trials, in their order
abbrev pub labels_of : {R : Type 0} → List (Trial R) → List Label
labels_of trials = map (λ t. label_of (info_of t)) trials

-- what a report shows at a place
abbrev pub label_at : List Label → ℕ → Label
label_at labels place = slice_index_or labels place (record { kind = []; name = [] })

-- ---- rows

-- one row as it is printed: a trial, what became of it, and for how many nanoseconds it ran, if the report says so
pub record PrintedRow : Type 0 where
  pub label : Label
  pub outcome : Outcome
  pub nanos : Option ℕ

-- a row with or without a time
abbrev pub timed_row : TestInfo → Outcome → Option ℕ → PrintedRow
timed_row info outcome nanos = record { label = label_of info; outcome = outcome; nanos = nanos }

-- a row without a time
abbrev pub row_of : TestInfo → Outcome → PrintedRow
row_of info outcome = timed_row info outcome None

-- the outcomes of rows, in their order
abbrev pub outcomes_of : List PrintedRow → List Outcome
outcomes_of rows = map (λ row. row.outcome) rows

-- the rows of trials that are paired with their outcomes, without times
abbrev pub rows_from : List (TestInfo × Outcome) → List PrintedRow
rows_from pairs = map (λ p. row_of p.0 p.1) pairs

-- the rows of outcomes at places, in the order of the places, without times
abbrev pub rows_at : List Label → List Placed → List PrintedRow
rows_at labels placed = map (λ p. record { label = label_at labels p.0; outcome = p.1; nanos = None }) placed
