-- What readers return, and what they read.
use Rattle.std.specs.Prelude.{◌≡◌, ℕ, ◌<◌, ◌^◌, true, List, decimal, Option, Some, None}
use Rattle.mimic_trial.specs.declared.outcome.Outcome.{Outcome}
use Rattle.mimic_trial.specs.declared.outcome.Conclusion.{Conclusion}
use Rattle.mimic_trial.specs.Count.{counts_of, is_failed}
use Rattle.mimic_printer.specs.Json.{Entry, FitsEntry, FitsLabel, FitsTime, json_title, json_announcement, json_outcome, json_summary, outcomes_in}
use Rattle.mimic_printer.specs.Row.{Label}
use Rattle.mimic_trial.specs.Promise.{FitsTypes}
use Rattle.mimic_trial.specs.Seconds.{exact_seconds}

-- what was found is the one value that the text spells; if nothing was found, the text spells none
abbrev pub Decodes : {V : Type 0} → (V → List ℕ → Type 0) → List ℕ → Option V → Type 0
Decodes {V} spells text None = (v : V) → spells v text → ⊥
Decodes {V} spells text (Some found) = spells found text × ((v : V) → spells v text → v ≡ found)

-- whatever a reader of these bytes finds, it is this value
abbrev pub IsReadAs : {V : Type 0} → (V → List ℕ → Type 0) → List ℕ → V → Type 0
IsReadAs {V} spells bytes value = (found : Option V) → Decodes spells bytes found → found ≡ Some value

-- the text is a number below 2^64 in plain decimal
abbrev pub IsNumber : ℕ → List ℕ → Type 0
IsNumber n text = (n < 2 ^ 64) × (text ≡ decimal n)

-- the text is nanoseconds below 2^64 in seconds
abbrev pub IsSeconds : ℕ → List ℕ → Type 0
IsSeconds nanos text = (nanos < 2 ^ 64) × (text ≡ exact_seconds nanos)

-- the line begins a report of `count` rows
abbrev pub IsTitle : ℕ → List ℕ → Type 0
IsTitle count line = (count < 2 ^ 64) × (line ≡ json_title count)

-- the line announces the trial of this name and kind
abbrev pub IsAnnouncement : Label → List ℕ → Type 0
IsAnnouncement label line = FitsLabel label × (line ≡ json_announcement label)

-- an outcome, and the nanoseconds that the trial took if the report says so
abbrev pub End : Type 0
End = Outcome × Option ℕ

-- the line says this outcome and this time of the trial of this name and kind
abbrev pub IsOutcome : Label → End → List ℕ → Type 0
IsOutcome label end line = FitsTypes end.0 × FitsTime end.1 × (line ≡ json_outcome label end.0 end.1)

-- the line says that the entry's trial failed, with a message or without one
abbrev pub IsFailedLine : Entry → List ℕ → Type 0
IsFailedLine entry line = (is_failed entry.outcome ≡ true) × FitsEntry entry
    × (line ≡ json_outcome entry.label entry.outcome entry.nanos)

-- the line ends a report of these rows; `numbers` are how many trials were filtered out, and the nanoseconds
abbrev pub IsSummary : List Entry → ℕ × ℕ → List ℕ → Type 0
IsSummary entries numbers line = (numbers.0 < 2 ^ 64) × (numbers.1 < 2 ^ 64)
    × (line ≡ json_summary (counts_of (outcomes_in entries) numbers.0) numbers.1)

-- `counts` says how many rows have each outcome
abbrev pub HasCounts : Conclusion → List Entry → Type 0
HasCounts counts entries = counts ≡ counts_of (outcomes_in entries) 0
