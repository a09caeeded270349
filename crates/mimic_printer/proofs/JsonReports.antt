-- A report in JSON, by its parts and by its lines.
use Rattle.std.proofs.Common.{◌≡◌, ℕ, List, [], ◌∷◌, ◌++◌, length, refl, sym, ap, ◌∙◌, append_assoc}
use Rattle.std.specs.List.{concat, flat_map}
use Rattle.std.proofs.lemmas.List.Folds.{concat-append}
use Rattle.mimic_trial.specs.declared.formats.FormatSetting.{FormatSetting}
use Rattle.mimic_trial.specs.declared.formats.FormatSetting.TheVariants.{Json}
use Rattle.mimic_printer.specs.declared.Printer.{Printer}
use Rattle.mimic_trial.specs.Count.{counts_of}
use Rattle.mimic_printer.specs.Json.{Contents, entry_lines, json_report, json_summary, json_title}
use Rattle.mimic_printer.specs.Report.{announcement_in, failures_in, outcome_in, report_text, summary_in, title_in}
use Rattle.mimic_printer.specs.Row.{PrintedRow, outcomes_of}

-- what a report of these rows says
abbrev pub contents_of : List PrintedRow → ℕ → ℕ → Contents
contents_of rows filtered_out nanos = record { entries = rows; filtered_out = filtered_out; nanos = nanos }

-- the text of a row in a format
abbrev row_in : FormatSetting → Printer → PrintedRow → List ℕ
row_in f p row = announcement_in f p row.label ++ outcome_in f p row.label row.outcome row.nanos

rows_as_lines : (p : Printer) (rows : List PrintedRow) → flat_map (row_in Json p) rows ≡ concat (flat_map entry_lines rows)
rows_as_lines p [] = refl
rows_as_lines p (row ∷ rows) =
    let announced : List ℕ = announcement_in Json p row.label in
    let ended : List ℕ = outcome_in Json p row.label row.outcome row.nanos in
    append_assoc announced ended (flat_map (row_in Json p) rows) ∙ ap (λ (l : List ℕ). announced ++ (ended ++ l)) (rows_as_lines p rows)

-- the parts of a report in a format
abbrev parts_in : FormatSetting → Printer → List PrintedRow → ℕ → ℕ → List ℕ
parts_in f p rows filtered_out nanos =
    concat (title_in f (length rows) ∷ flat_map (row_in f p) rows ∷ failures_in f rows ∷ summary_in f p (counts_of (outcomes_of rows) filtered_out) nanos ∷ [])

parts_in_json : (p : Printer) (rows : List PrintedRow) (filtered_out nanos : ℕ) → parts_in Json p rows filtered_out nanos ≡ json_report (contents_of rows filtered_out nanos)
unfolding json_report
parts_in_json p rows filtered_out nanos =
    let lines : List (List ℕ) = flat_map entry_lines rows in
    let last : List ℕ = json_summary (counts_of (outcomes_of rows) filtered_out) nanos in
    ap (λ (l : List ℕ). json_title (length rows) ++ l) (ap (λ (l : List ℕ). l ++ (last ++ [])) (rows_as_lines p rows) ∙ sym (concat-append lines (last ∷ [])))

-- a report in JSON is the one text of what it says
pub report_is_json : (p : Printer) (rows : List PrintedRow) (filtered_out nanos : ℕ) → p.format ≡ Json → report_text p rows filtered_out nanos ≡ json_report (contents_of rows filtered_out nanos)
unfolding report_text
report_is_json p rows filtered_out nanos h = ap (λ f. parts_in f p rows filtered_out nanos) h ∙ parts_in_json p rows filtered_out nanos
