-- Reports as they are printed: the parts of their text.
use Rattle.std.proofs.Common.{◌≡◌, ℕ, Bool, List, [], ◌∷◌, ◌++◌, append_assoc, length, map, refl}
use Rattle.std.proofs.lemmas.List.{length-map, map-append}
use Rattle.std.proofs.lemmas.List.Folds.{flat_map-map}
use Rattle.std.proofs.lemmas.Simd.{map-map}
use Rattle.std.specs.List.{flat_map}
use Rattle.mimic_trial.specs.declared.formats.FormatSetting.{FormatSetting}
use Rattle.mimic_trial.specs.declared.formats.FormatSetting.TheVariants.{Pretty, Terse, Json}
use Rattle.mimic_trial.specs.Count.{counts_of}
use Rattle.mimic_trial.specs.declared.outcome.Conclusion.{Conclusion}
use Rattle.mimic_trial.specs.declared.trial.TestInfo.{TestInfo}
use Rattle.mimic_printer.specs.declared.Printer.{Printer}
use Rattle.mimic_printer.specs.Report.{failures_if_any, failures_in, failures_text, report_text, row_text, summary_text, title_text}
use Rattle.mimic_printer.specs.Row.{PrintedRow, label_of, outcomes_of, row_of}
use Rattle.mimic_printer.specs.Widths.{kind_width_of, name_width_of}
use Rattle.mimic_events.specs.declared.ending.Ending.{Ending}
use Rattle.mimic_events.specs.declared.ending.Stop.{Stop}
use Rattle.mimic_events.specs.declared.report.Row.{Row}
use Rattle.mimic_reports.specs.declared.show.KeptRow.{KeptRow}
use Rattle.mimic_reports.specs.Show.{cut_line, cut_part, cut_report_text, failures_part, full_failure, kept_row, kept_rows, labels_in, pretty_printer, printed_row, rows_and_failures, title_if_any}

-- ---- rows

labels-same : (rows : List KeptRow) → labels_in (kept_rows rows) ≡ map (λ row. label_of row.info) rows
labels-same rows =
    map-map (λ (row : PrintedRow). row.label) kept_row rows

-- the printer of these columns
pub printer-same : (colours : Bool) (rows : List KeptRow) (n k : ℕ) → n ≡ name_width_of (map (λ row. label_of row.info) rows) → k ≡ kind_width_of (map (λ row. label_of row.info) rows)
    → record { format = Pretty; colour = colours; name_width = n; kind_width = k } ≡ pretty_printer colours (kept_rows rows)
printer-same colours rows n k names kinds =
    rw (names, kinds, labels-same rows)

-- one more row, whatever its flags
pub one-more : (before after : List KeptRow) (info : TestInfo) (rows : List Row) (row : Row) → label_of info ≡ (printed_row row).label → kept_rows before ≡ map printed_row rows
    → after ≡ before ++ record { info = info; outcome = row.outcome; nanos = row.nanos } ∷ [] → kept_rows after ≡ map printed_row (rows ++ row ∷ [])
one-more before after info rows row label so_far e = simp (e, map-append, so_far, label)

-- one more row under its full name
pub one-named : (before after : List KeptRow) (named : KeptRow) (rows : List KeptRow) (row : KeptRow) → kept_row named ≡ full_failure (kept_row row)
    → kept_rows before ≡ map full_failure (kept_rows rows) → after ≡ before ++ named ∷ []
    → kept_rows after ≡ map full_failure (kept_rows (rows ++ row ∷ []))
one-named before after named rows row label so_far e = simp (e, map-append, so_far, label)

-- ---- failures

-- the rows without their times
abbrev pub untimed : List KeptRow → List PrintedRow
untimed rows = map (λ row. row_of row.info row.outcome) rows

-- they have the same failures
failures-untimed : (rows : List KeptRow) → failures_if_any (untimed rows) ≡ failures_if_any (kept_rows rows)
unfolding failures_if_any
failures-untimed rows = simp (map-map, flat_map-map)

-- and so these are the failures that are shown, and how a report ended behind as many rows
pub part-untimed : (rows : List KeptRow) (ending : Ending) → failures_part (kept_rows rows) ending ≡ failures_if_any (untimed rows) ++ cut_part (length rows) ending
part-untimed rows ending = simp (failures-untimed rows, length-map)

failures_in-untimed : (f : FormatSetting) (rows : List KeptRow) → failures_in f (untimed rows) ≡ failures_in f (kept_rows rows)
failures_in-untimed Pretty rows = failures-untimed rows
failures_in-untimed Terse rows = failures-untimed rows
failures_in-untimed Json rows = refl

-- ---- text

-- the rows and the failures, each without the rows' list that a printer takes
pub both-parts : (p : Printer) (rows : List KeptRow)
    → rows_and_failures p (kept_rows rows) ≡ flat_map (λ row. row_text p (kept_row row)) rows ++ failures_text p (untimed rows)
both-parts p rows = simp (flat_map-map, failures_in-untimed)

-- the text of a report, part by part
pub text-parts : (p : Printer) (rows : List KeptRow) (n : ℕ) (counts : Conclusion) (nanos : ℕ) → n ≡ length rows → counts ≡ counts_of (outcomes_of (kept_rows rows)) counts.num_filtered_out
    → report_text p (kept_rows rows) counts.num_filtered_out nanos
    ≡ title_text p n ++ (rows_and_failures p (kept_rows rows) ++ (summary_text p counts nanos ++ []))
unfolding report_text
text-parts p rows n counts nanos count same = simp (length-map, append_assoc, count, ← same)

-- the text of a report that is cut, part by part
pub cut-parts : (p : Printer) (rows : List KeptRow) (stop : Stop)
    → cut_report_text p (kept_rows rows) stop
    ≡ title_if_any p stop.announced ++ (rows_and_failures p (kept_rows rows) ++ (cut_line (length rows) stop ++ []))
unfolding cut_report_text
cut-parts p rows stop = simp (length-map, append_assoc)
