-- What is shown of a row.
use Rattle.std.specs.Prelude.{ℕ, Bool, ◌-◌, ◌==◌, if◌then◌else◌, List, [], ◌++◌, length, take, codes, decimal, Option, Some, None}
use Rattle.std.specs.List.{flat_map}
use Rattle.std.specs.Str.Lines.{lines}
use Rattle.mimic_trial.specs.declared.outcome.Outcome.{Outcome}
use Rattle.mimic_trial.specs.declared.outcome.Outcome.TheVariants.{Passed, Failed, Ignored, Measured}
use Rattle.mimic_trial.specs.declared.outcome.Measurement.{Measurement}
use Rattle.mimic_trial.specs.Text.{grouped}
use Rattle.mimic_trial.specs.declared.formats.FormatSetting.TheVariants.{Pretty}
use Rattle.mimic_printer.specs.declared.Printer.{Printer}
use Rattle.mimic_printer.specs.Json.{Entry}
use Rattle.mimic_printer.specs.Report.{colour_end, colour_start, outcome_word}
use Rattle.mimic_printer.specs.Row.{Label}
use Rattle.mimic_printer.specs.Escapes.{escaped}
use Rattle.mimic_printer.specs.Piece.{bracketed}
use Rattle.mimic_printer.specs.declared.place.Place.TheVariants.{Terminal}

-- the kind, if there is one, the name, and what follows
abbrev pub label_text : Label → List ℕ → List ℕ
label_text label rest = bracketed Terminal label.kind ++ (escaped Terminal label.name ++ rest)

-- a line of a message
abbrev pub line_text : List ℕ → List ℕ
line_text line = codes "    " ++ (escaped Terminal line ++ codes "\n")

abbrev pub lines_noun : ℕ → List ℕ
lines_noun count = if count == 1 then codes " more line\n" else codes " more lines\n"

-- how many lines are left out, if some are
abbrev pub more_text : ℕ → List ℕ
more_text count = if count == 0 then [] else codes "    .. " ++ (decimal count ++ lines_noun count)

-- the first 20 lines of a message, and how many more it has
unfoldable pub message_lines : List ℕ → List ℕ
message_lines message = flat_map line_text (take 20 (lines message)) ++ more_text (length (lines message) - 20)

abbrev pub message_text : Option (List ℕ) → List ℕ
message_text None = []
message_text (Some message) = message_lines message

-- what was measured, and the end of the line
abbrev pub measured_text : Measurement → List ℕ
measured_text m = codes ": " ++ (grouped (decimal m.avg) ++ (codes " ns/iter (+/- " ++ (grouped (decimal m.variance) ++ codes ")\n")))

-- how the harness prints, with colours or without
abbrev pub printer_of : Bool → Printer
printer_of colours = record { format = Pretty; colour = colours; name_width = 0; kind_width = 0 }

-- an outcome's word, as the harness prints it
abbrev pub word_text : Bool → Outcome → List ℕ
word_text colours outcome = colour_start (printer_of colours) outcome ++ (outcome_word outcome ++ colour_end (printer_of colours))

-- the words of failures and of measurements, whatever the message is or was measured
abbrev pub failed_word : Bool → List ℕ
failed_word colours = word_text colours (Failed None)

abbrev pub bench_word : Bool → List ℕ
bench_word colours = word_text colours (Measured (record { avg = 0; variance = 0 }))

-- a failure with its message, a measurement, and nothing of others
abbrev pub outcome_text : Bool → Label → Outcome → List ℕ
outcome_text colours label Passed = []
outcome_text colours label Ignored = []
outcome_text colours label (Failed message) = (failed_word colours ++ (codes " " ++ label_text label (codes "\n"))) ++ message_text message
outcome_text colours label (Measured m) = bench_word colours ++ (codes "  " ++ label_text label (measured_text m))

-- the line that names a row that failed, and nothing of others
abbrev pub failed_line : Label → Outcome → List ℕ
failed_line label (Failed message) = codes "    " ++ label_text label (codes "\n")
failed_line label outcome = []

-- a line for each row that failed
abbrev pub failed_lines : List Entry → List ℕ
failed_lines entries = flat_map (λ e. failed_line e.label e.outcome) entries

-- what is shown of a row that has ended
unfoldable pub row_text : Bool → Entry → List ℕ
row_text colours entry = outcome_text colours entry.label entry.outcome
