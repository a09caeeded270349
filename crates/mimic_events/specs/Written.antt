-- What the private writers of rows promise one another. No public clause names these words.
use Rattle.std.specs.Prelude.{ℕ, List}
use Rattle.std.specs.List.{concat}
use Rattle.mimic_printer.specs.Json.{FitsEntry, entry_lines}
use Rattle.mimic_events.specs.Contents.{entry_read}
use Rattle.mimic_events.specs.declared.report.Row.{Row}

-- the two lines of a row
abbrev pub row_lines : Row → List ℕ
row_lines row = concat (entry_lines (entry_read row))

-- the row's name, kind and message are texts, and its numbers fit
abbrev pub FitsRow : Row → Type 0
FitsRow row = FitsEntry (entry_read row)
