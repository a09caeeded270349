-- The lines of a trial as they are written in JSON, for the private functions that write them. No public clause names these words.
use Rattle.std.specs.Prelude.{ℕ, Bool, if◌then◌else◌, List, [], ◌++◌, Option}
use Rattle.mimic_trial.specs.declared.outcome.Outcome.{Outcome}
use Rattle.mimic_printer.specs.Json.{json_announcement, json_outcome}
use Rattle.mimic_printer.specs.Row.{Label}

-- the line that announces a trial, if it comes before the line of the outcome
abbrev pub announced_before : Bool → Label → List ℕ
announced_before both label = if both then json_announcement label else []

-- the line of an outcome, and that line before it
abbrev pub json_lines : Bool → Label → Outcome → Option ℕ → List ℕ
json_lines both label outcome time = announced_before both label ++ json_outcome label outcome time
