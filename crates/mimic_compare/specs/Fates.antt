-- What became of the trials of a kind and a name.
use Rattle.std.specs.Prelude.{ℕ, List, filter, map, Option}
use Rattle.mimic_trial.specs.declared.outcome.Outcome.{Outcome}
use Rattle.mimic_printer.specs.Json.{Entry}
use Rattle.mimic_printer.specs.Row.{Label}
use Rattle.mimic_events.specs.Key.{same_label}

-- what a row says after a kind and a name: the outcome, and the nanoseconds that the trial took, if the report says so
pub record Fate : Type 0 where
  pub outcome : Outcome
  pub nanos : Option ℕ

abbrev pub fate_of : Entry → Fate
fate_of entry = record { outcome = entry.outcome; nanos = entry.nanos }

-- what the rows with this kind and name say, in their order
abbrev pub fates_with : Label → List Entry → List Fate
fates_with label entries = map fate_of (filter (λ entry. same_label label entry.label) entries)
