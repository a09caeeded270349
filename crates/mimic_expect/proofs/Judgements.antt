-- The parts of judging together.
use Rattle.std.proofs.Common.{◌≡◌, ◌+◌, Bool, List, [], ◌∷◌, ◌++◌, length, map, refl, sym, ap, ◌∙◌, arith}
use Rattle.std.specs.Prelude.{filter}
use Rattle.std.proofs.lemmas.List.{length-map, map-append}
use Rattle.std.proofs.lemmas.Simd.{map-map}
use Rattle.mimic_trial.specs.declared.outcome.Outcome.{Outcome}
use Rattle.mimic_trial.specs.Count.{is_failed, is_ignored_outcome}
use Rattle.mimic_printer.specs.Json.{Entry}
use Rattle.mimic_events.specs.Contents.{entry_read}
use Rattle.mimic_events.specs.declared.report.Row.{Row}
use Rattle.mimic_events.specs.Key.{Key}
use Rattle.mimic_expect.specs.Expect.{has_passed, keyed, met_by, rows_with, unmet_by, without}
use Rattle.mimic_expect.specs.JudgementText.{entries_read}
use Rattle.mimic_expect.specs.Known.{expected_read}
use Rattle.mimic_expect.specs.declared.known.Expectation.{Expectation}
use Rattle.mimic_expect.proofs.Strangers.{filter_mapped}
use denote.Ref.{Bor}

-- ---- rows of an outcome

rows_read : (test : Outcome → Bool) (rows : List Row) → rows_with test (map entry_read rows) ≡ map entry_read (filter (λ (row : Row). test row.outcome) rows)
rows_read test rows = filter_mapped (λ (row : Entry). test row.outcome) entry_read rows

abbrev now : Bor Row → Row
now row = row.now

pub rows_found : (test : Outcome → Bool) (rows : List Row) (found : List (Bor Row)) → map now found ≡ filter (λ (row : Row). test row.outcome) rows → entries_read found ≡ rows_with test (map entry_read rows)
rows_found test rows found e = sym (map-map entry_read now found) ∙ (ap (map entry_read) e ∙ sym (rows_read test rows))

pub others_found : (rows : List Row) (unmet others : List (Bor Row))
    → map now others ≡ map now unmet ++ (filter (λ (row : Row). has_passed row.outcome) rows ++ filter (λ (row : Row). is_ignored_outcome row.outcome) rows)
    → entries_read others ≡ entries_read unmet ++ (rows_with has_passed (map entry_read rows) ++ rows_with is_ignored_outcome (map entry_read rows))
others_found rows unmet others e =
    rw (← map-map entry_read now others, e, rows_read has_passed rows, rows_read is_ignored_outcome rows, ← map-map entry_read now unmet) (simp map-append)

-- ---- how many meet

met_and_unmet : (X : Type 0) (left : List (Key × X)) (rows : List Entry) → length (met_by left rows) + length (unmet_by left rows) ≡ length rows
met_and_unmet X left [] = refl
met_and_unmet X left (row ∷ rows) = grind (arith, met_and_unmet X (without left row) rows)

module _ (known : List Expectation) (rows : List Row) (failed slice unmet : List (Bor Row)) (found : map now failed ≡ filter (λ (row : Row). is_failed row.outcome) rows) (same : slice ≡ failed) where
  pub failures_read : entries_read slice ≡ rows_with is_failed (map entry_read rows)
  failures_read = ap entries_read same ∙ rows_found is_failed rows failed found

  pub counted : entries_read unmet ≡ unmet_by (keyed (map expected_read known)) (entries_read slice)
      → length (met_by (keyed (map expected_read known)) (rows_with is_failed (map entry_read rows))) + length unmet ≡ length failed
  counted met =
      let left = keyed (map expected_read known) in
      let failures = rows_with is_failed (map entry_read rows) in
      let rest = ap length (met ∙ ap (unmet_by left) failures_read) in
      omega (arith, met_and_unmet _ left failures, ap length failures_read, ap length same, rest, length-map slice (λ (row : Bor Row). entry_read row.now), length-map unmet (λ (row : Bor Row). entry_read row.now))
