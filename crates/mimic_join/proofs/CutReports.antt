-- Cut reports, by their parts, and reports that are all whole.
use Rattle.std.proofs.Common.{◌≡◌, ◌<◌, ◌-◌, ◌^◌, ◌&&◌, ℕ, true, List, [], ◌∷◌, ◌++◌, Option, None, Some, IfSome, ap, arith, length, map, refl}
use Rattle.std.proofs.lemmas.Bool.{false≢true}
use Rattle.std.specs.Prelude.{min, sum}
use Rattle.std.specs.List.{flat_map}
use Rattle.std.proofs.lemmas.List.Folds.{flat_map-map}
use Rattle.mimic_printer.specs.Json.{json_title}
use Rattle.mimic_events.specs.Contents.{entry_read}
use Rattle.mimic_events.specs.Readings.{IsReading, is_whole}
use Rattle.mimic_events.specs.Written.{row_lines}
use Rattle.mimic_events.specs.declared.ending.Ending.{Ending}
use Rattle.mimic_events.specs.declared.ending.Ending.TheVariants.{Whole, Cut, Failed}
use Rattle.mimic_events.specs.declared.taker.RowsRead.{RowsRead}
use Rattle.mimic_events.specs.declared.report.Row.{Row}
use Rattle.mimic_join.specs.Cut.{AreReadOf, cut_report, cut_text, are_whole, ended_rows, titles_in, wholes_in}
use Rattle.mimic_join.specs.Inputs.{AreReportsIn}
use Rattle.mimic_join.specs.Turns.{in_turn}
use denote.Ref.{Bor}

-- the sum of the numbers, at most 2^64 - 1; none of no numbers
abbrev pub IsSumOf : List ℕ → Option ℕ → Type 0
IsSumOf titles None = titles ≡ []
IsSumOf titles (Some all) = (0 < length titles) × (all ≡ min (sum titles) (2 ^ 64 - 1))

-- the title and the rows are the cut report
pub cut_lines : (reads : List RowsRead) (rows : List (Bor Row)) (announced : ℕ) → IsSumOf (titles_in reads) (Some announced)
    → map (λ row. row.now) rows ≡ in_turn (map ended_rows reads)
    → json_title announced ++ flat_map (λ row. row_lines row.now) rows ≡ cut_text reads
unfolding cut_text
cut_lines reads rows announced s e = at (titles_in reads) s
  where
    at : (titles : List ℕ) → IsSumOf titles (Some announced)
        → json_title announced ++ flat_map (λ row. row_lines row.now) rows ≡ cut_report titles (in_turn (map ended_rows reads))
    at [] s = absurd (omega (arith, s.0))
    at (title ∷ titles) s = rw (s.1, ← e, flat_map-map) refl

-- without a title it is nothing
pub nothing : (reads : List RowsRead) → titles_in reads ≡ [] → cut_text reads ≡ []
unfolding cut_text
nothing reads none = ap (λ (titles : List ℕ). cut_report titles (in_turn (map ended_rows reads))) none

-- inputs of which all was read are reports
pub are_reports : (inputs : List (Option (List ℕ))) (reads : List RowsRead) → AreReadOf inputs reads → are_whole reads ≡ true
    → AreReportsIn inputs (flat_map wholes_in reads)
are_reports [] [] read whole = tt
are_reports [] (r ∷ reads) read whole = absurd read
are_reports (i ∷ inputs) [] read whole = absurd read
are_reports (i ∷ inputs) (r ∷ reads) read whole = at r.ending read.0 whole (are_reports inputs reads read.1)
  where
    at : (ending : Ending) → IfSome i (IsReading (map entry_read r.rows.items) ending) → (is_whole ending && are_whole reads) ≡ true
        → (are_whole reads ≡ true → AreReportsIn inputs (flat_map wholes_in reads)) → AreReportsIn (i ∷ inputs) (wholes_in (record r { ending = ending }) ++ flat_map wholes_in reads)
    at (Whole filtered_out nanos) here all rest = (here, rest all)
    at (Cut stop) here all rest = absurd (false≢true all)
    at (Failed error) here all rest = absurd (false≢true all)
