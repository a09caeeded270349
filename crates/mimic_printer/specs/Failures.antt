-- What is written of the rows that failed, for the private functions that go over them. No public clause names this word.
use Rattle.std.specs.Prelude.{ℕ, List}
use Rattle.mimic_printer.specs.Row.{PrintedRow}
use Rattle.mimic_printer.specs.declared.failures.Part.{Part}
use Rattle.mimic_printer.specs.declared.failures.Part.TheVariants.{Message, Name}
use Rattle.mimic_printer.specs.Report.{row_failed_name, row_failure}

-- what is written of a row if it failed
abbrev pub row_part : Part → PrintedRow → List ℕ
row_part Message row = row_failure row
row_part Name row = row_failed_name row
