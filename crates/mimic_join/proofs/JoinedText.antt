-- The text of a joined report, by its parts.
use Rattle.std.proofs.Common.{◌≡◌, ℕ, List, [], ◌∷◌, ◌++◌, length, map, refl, sym, ap, ◌∙◌, append-nil}
use Rattle.std.specs.List.{concat, flat_map}
use Rattle.std.proofs.lemmas.List.{length-map}
use Rattle.std.proofs.lemmas.Simd.{map-map}
use Rattle.std.proofs.lemmas.List.Folds.{concat-append, flat_map-map}
use Rattle.mimic_trial.specs.Count.{counts_of}
use Rattle.mimic_trial.specs.declared.outcome.Conclusion.{Conclusion}
use Rattle.mimic_printer.specs.Json.{conclusion_of, entry_lines, json_report, json_summary, json_title}
use Rattle.mimic_events.specs.Contents.{entry_read}
use Rattle.mimic_events.specs.Written.{row_lines}
use Rattle.mimic_events.specs.declared.report.Row.{Row}
use Rattle.mimic_events.specs.declared.report.Report.{Report}
use Rattle.mimic_join.specs.Inputs.{joined_text}
use Rattle.mimic_join.specs.Joined.{filtered_out_of, greatest, joined_contents, rows_in, time_of}
use Rattle.mimic_join.specs.Turns.{in_turn}
use denote.Ref.{Bor}

rows_flat : (rows : List Row) → concat (flat_map entry_lines (map entry_read rows)) ≡ flat_map row_lines rows
rows_flat [] = refl
rows_flat (row ∷ rows) =
    concat-append (entry_lines (entry_read row)) (flat_map entry_lines (map entry_read rows))
    ∙ ap (λ (l : List ℕ). row_lines row ++ l) (rows_flat rows)

-- the text of the joined report, by its title, its rows and its summary
whole : (reports : List Report) → joined_text reports
    ≡ json_title (length (in_turn (map rows_in reports)))
    ++ (flat_map row_lines (in_turn (map rows_in reports))
    ++ json_summary (conclusion_of (joined_contents reports)) (greatest (map time_of reports)))
unfolding json_report
whole reports = simp (length-map, concat-append, rows_flat, append-nil)

-- the counts and the lines of these rows are those of the joined report
pub joined_lines : (reports : List Report) (totals : ℕ × ℕ) (rows : List (Bor Row)) (counts : Conclusion)
    → (totals.0 ≡ filtered_out_of reports) × (totals.1 ≡ greatest (map time_of reports))
    → map (λ row. row.now) rows ≡ in_turn (map rows_in reports) → counts ≡ counts_of (map (λ row. row.now.outcome) rows) totals.0
    → (counts ≡ conclusion_of (joined_contents reports))
    × (json_title (length rows) ++ (flat_map (λ row. row_lines row.now) rows ++ json_summary counts totals.1) ≡ joined_text reports)
joined_lines reports totals rows counts are turned counted =
    let same : counts ≡ conclusion_of (joined_contents reports) = rw (← are.0, ← turned) (counted ∙ sym (simp map-map)) in (
      same,
      sym (whole reports
          ∙ rw (← same, ← are.1, ← turned, length-map, flat_map-map row_lines (λ (row : Bor Row). row.now) rows) refl),
    )
