-- Reports as the harness prints them in pretty.
use Rattle.std.specs.Prelude.{ℕ, Bool, if◌then◌else◌, List, [], ◌∷◌, ◌++◌, codes, length, map, Option, None, Some, string_bytes}
use Rattle.std.specs.List.{concat}
use Rattle.mimic_trial.specs.Count.{is_failed}
use Rattle.mimic_trial.specs.Text.{kind_part}
use Rattle.mimic_trial.specs.declared.formats.FormatSetting.TheVariants.{Pretty}
use Rattle.mimic_printer.specs.declared.Printer.{Printer}
use Rattle.mimic_printer.specs.declared.place.Place.TheVariants.{Line}
use Rattle.mimic_printer.specs.Report.{failures_if_any, failures_text, report_text, rows_text, title_text}
use Rattle.mimic_printer.specs.Row.{Label, PrintedRow, timed_row}
use Rattle.mimic_printer.specs.Widths.{kind_width_of, name_width_of}
use Rattle.mimic_events.specs.declared.ending.Ending.{Ending}
use Rattle.mimic_events.specs.declared.ending.Ending.TheVariants.{Cut}
use Rattle.mimic_events.specs.declared.ending.Stop.{Stop}
use Rattle.mimic_events.specs.declared.report.Report.{Report}
use Rattle.mimic_events.specs.declared.report.Row.{Row}
use Rattle.mimic_reports.specs.Cut.{cut_text}
use Rattle.mimic_reports.specs.declared.show.KeptRow.{KeptRow}

-- what is printed of a row that was read: its kind, its name, its outcome and its time
abbrev pub printed_row : Row → PrintedRow
printed_row row = record {
  label = record { kind = string_bytes row.kind; name = string_bytes row.name };
  outcome = row.outcome;
  nanos = row.nanos;
}

-- the rows of a report, in their order
abbrev pub printed_rows : Report → List PrintedRow
printed_rows report = map printed_row report.rows.items

-- what comes before the outcomes of rows
abbrev pub labels_in : List PrintedRow → List Label
labels_in rows = map (λ row. row.label) rows

-- the printer of a run with these rows, in pretty: its columns are as wide as they need (the Rust crate's)
abbrev pub pretty_printer : Bool → List PrintedRow → Printer
pretty_printer colours rows = record {
  format = Pretty;
  colour = colours;
  name_width = name_width_of (labels_in rows);
  kind_width = kind_width_of (labels_in rows);
}

-- what the harness prints in pretty of the run that a report is of
abbrev pub pretty_report : Bool → Report → List ℕ
pretty_report colours report = report_text (pretty_printer colours (printed_rows report)) (printed_rows report) report.filtered_out report.nanos

-- what is printed of the end of a report that is cut, after `ended` rows: an empty line, and one that says how far it goes (our own)
abbrev pub cut_line : ℕ → Stop → List ℕ
cut_line ended stop = concat (codes "\n" ∷ cut_text Line ended stop ∷ codes "\n" ∷ [])

-- what is printed of how a report ended, after `ended` rows: nothing unless it is cut
abbrev pub cut_part : ℕ → Ending → List ℕ
cut_part ended (Cut stop) = cut_line ended stop
cut_part ended ending = []

-- what is printed of the failures among rows that have ended, and of how the report ended
abbrev pub failures_part : List PrintedRow → Ending → List ℕ
failures_part rows ending = failures_if_any rows ++ cut_part (length rows) ending

-- a row under its full name, its kind in brackets and its name, if it failed
abbrev pub full_failure : PrintedRow → PrintedRow
full_failure row = record {
  label = record {
    kind = row.label.kind;
    name = if is_failed row.outcome then kind_part row.label.kind ++ row.label.name else row.label.name;
  };
  outcome = row.outcome;
  nanos = row.nanos;
}

-- what is printed of the failures alone, under their full names, if these rows have ended in a report, and it ended so
abbrev pub pretty_failures : List Row → Ending → List ℕ
pretty_failures rows ending = failures_part (map full_failure (map printed_row rows)) ending

-- the title of a report that announces this number of trials, if its title was read
abbrev pub title_if_any : Printer → Option ℕ → List ℕ
title_if_any printer None = []
title_if_any printer (Some announced) = title_text printer announced

-- what a printer prints of a report that is cut: the title, the rows that have ended, their failures, and how far it goes
unfoldable pub cut_report_text : Printer → List PrintedRow → Stop → List ℕ
cut_report_text printer rows stop = concat (
    title_if_any printer stop.announced ∷ rows_text printer rows ∷ failures_text printer rows
    ∷ cut_line (length rows) stop ∷ [])

-- what the harness prints in pretty of the rows that have ended in a report, and how far it goes, if it is cut
abbrev pub pretty_cut : Bool → List Row → Stop → List ℕ
pretty_cut colours rows stop = cut_report_text (pretty_printer colours (map printed_row rows)) (map printed_row rows) stop

-- ---- rows as a printer takes them. No public clause names these words

-- rows, and then the failures among them
abbrev pub rows_and_failures : Printer → List PrintedRow → List ℕ
rows_and_failures printer rows = rows_text printer rows ++ failures_text printer rows

abbrev pub kept_row : KeptRow → PrintedRow
kept_row row = timed_row row.info row.outcome row.nanos

abbrev pub kept_rows : List KeptRow → List PrintedRow
kept_rows rows = map kept_row rows
