-- What a report that was read back says, in the words of the reports that are written.
use Rattle.std.specs.Prelude.{ℕ, List, length, map, string_bytes}
use Rattle.mimic_printer.specs.Json.{Entry, Contents, IsJsonReport, conclusion_of}
use Rattle.mimic_printer.specs.Row.{Label}
use Rattle.mimic_events.specs.declared.report.Label.{Label as LabelRead}
use Rattle.mimic_events.specs.declared.report.Row.{Row}
use Rattle.mimic_events.specs.declared.report.Report.{Report}
use Rattle.mimic_events.specs.declared.report.Totals.{Totals}

-- what an announcement that was read says: a name and a kind
abbrev pub label_read : LabelRead → Label
label_read label = record { kind = string_bytes label.kind; name = string_bytes label.name }

-- what a row that was read says: its name, its kind, its outcome and its time
abbrev pub entry_read : Row → Entry
entry_read row = record {
  label = record { kind = string_bytes row.kind; name = string_bytes row.name };
  outcome = row.outcome;
  nanos = row.nanos;
}

-- what a report that was read says: the entries of its rows, and its two numbers
abbrev pub contents_read : Report → Contents
contents_read r = record { entries = map entry_read r.rows.items; filtered_out = r.filtered_out; nanos = r.nanos }

-- what a report says in numbers: how many rows, their counts, and the nanoseconds
abbrev pub totals_of : Contents → Totals
totals_of c = record { rows = length c.entries; counts = conclusion_of c; nanos = c.nanos }

-- the bytes are the JSON report of these contents
abbrev pub Spells : Contents → List ℕ → Type 0
Spells contents bytes = IsJsonReport bytes contents
