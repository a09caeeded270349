-- What is written in a line about a report without its end.
use Rattle.std.specs.Prelude.{ℕ, List, [], ◌∷◌, ◌++◌, codes, Option, Some, None, string_bytes}
use Rattle.std.specs.List.{concat}
use Rattle.mimic_printer.specs.Escapes.{escaped}
use Rattle.mimic_printer.specs.Piece.{bracketed}
use Rattle.mimic_printer.specs.declared.place.Place.{Place}
use Rattle.mimic_events.specs.Stops.{extent_text}
use Rattle.mimic_events.specs.declared.report.Label.{Label as LabelRead}
use Rattle.mimic_events.specs.declared.ending.Stop.{Stop}

-- the trial that was announced and has not ended
abbrev pub running_part : Place → Option LabelRead → List ℕ
running_part place None = []
running_part place (Some label) = concat (codes "; running: "
    ∷ bracketed place (string_bytes label.kind) ∷ escaped place (string_bytes label.name) ∷ [])

-- how far the report goes, which has rows of `ended` trials, and which trial was running
abbrev pub cut_text : Place → ℕ → Stop → List ℕ
cut_text place ended stop = extent_text ended stop ++ running_part place stop.running
