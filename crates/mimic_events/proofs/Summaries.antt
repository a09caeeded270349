-- The line that ends a report.
use Rattle.std.proofs.Common.{◌≡◌, ℕ, List, [], ◌∷◌, ◌++◌, Option, Some, None, decimal, refl, sym, ap, ◌∙◌, arith}
use Rattle.std.specs.List.{concat}
use Rattle.std.proofs.lemmas.List.{append_cancel_left, append_cancel_right, map-append}
use Rattle.std.proofs.lemmas.List.Folds.{concat-append}
use Rattle.mimic_trial.specs.declared.outcome.Outcome.{Outcome}
use Rattle.mimic_trial.specs.declared.outcome.Conclusion.{Conclusion}
use Rattle.mimic_trial.specs.Count.{counted, counts_of}
use Rattle.mimic_trial.proofs.Counting.{counts-push}
use Rattle.mimic_printer.specs.Json.{Entry, json_end, json_summary, summary_front, time_key, outcomes_in}
use Rattle.mimic_trial.specs.Seconds.{exact_seconds}
use Rattle.mimic_events.specs.LineParts.{IsTotals, ReadsNumber}
use Rattle.mimic_events.specs.Reading.{Decodes, HasCounts, IsSeconds, IsSummary}

-- one row more
pub counts_more : (entries : List Entry) (counts : Conclusion) (e : Entry) → HasCounts counts entries → HasCounts (counted counts e.outcome) (entries ++ e ∷ [])
counts_more entries counts e h =
    ap (λ (c : Conclusion). counted c e.outcome) h ∙ sym (counts-push (outcomes_in entries) e.outcome 0)
    ∙ ap (λ (os : List Outcome). counts_of os 0) (sym (map-append (λ (x : Entry). x.outcome) entries (e ∷ [])))

-- ---- what follows the counts of outcomes

abbrev pub totals_of : ℕ → ℕ → List ℕ
totals_of x t = decimal x ++ (time_key ++ (exact_seconds t ++ json_end))

-- after the number of trials that were filtered out
pub behind_number : (text rest : List ℕ) (x : ℕ) (v : ℕ × ℕ) → ReadsNumber text (Some (x, rest)) → IsTotals v text → (v.0 ≡ x) × (rest ≡ time_key ++ (exact_seconds v.1 ++ json_end))
behind_number text rest x v read h =
    let r = read.3 v.0 (time_key ++ (exact_seconds v.1 ++ json_end)) h.0 (λ a b. omega arith) h.2 in
    (r.0, sym r.1)

-- after the key of the time
pub behind_key : (text rest time : List ℕ) (x : ℕ) (v : ℕ × ℕ) → ReadsNumber text (Some (x, rest)) → rest ≡ time_key ++ time → IsTotals v text → time ≡ exact_seconds v.1 ++ json_end
behind_key text rest time x v read e h = append_cancel_left time_key time (exact_seconds v.1 ++ json_end) (sym e ∙ (behind_number text rest x v read h).1)

pub is_time : (text rest time spelled : List ℕ) (x : ℕ) (v : ℕ × ℕ) → ReadsNumber text (Some (x, rest)) → rest ≡ time_key ++ time → time ≡ spelled ++ json_end → IsTotals v text → IsSeconds v.1 spelled
is_time text rest time spelled x v read e f h = (h.1, append_cancel_right spelled (exact_seconds v.1) json_end (sym f ∙ behind_key text rest time x v read e h))

pub totals_found : (text rest time spelled : List ℕ) (x t : ℕ) → ReadsNumber text (Some (x, rest)) → rest ≡ time_key ++ time → time ≡ spelled ++ json_end → Decodes IsSeconds spelled (Some t) → Decodes IsTotals text (Some (x, t))
totals_found text rest time spelled x t read e f d =
    let whole : text ≡ totals_of x t =
    read.1 ∙ ap (λ (y : List ℕ). decimal x ++ y) (e ∙ ap (λ (y : List ℕ). time_key ++ y) (f ∙ ap (λ (y : List ℕ). y ++ json_end) d.0.1)) in (
      (read.0, d.0.0, whole),
      λ v h.
          let a = (behind_number text rest x v read h).0 in
          let b = d.1 v.1 (is_time text rest time spelled x v read e f h) in
          rw (← a, ← b) refl,
    )

-- ---- the whole line

summary_is : (os : List Outcome) (x t : ℕ) → json_summary (counts_of os x) t ≡ concat (summary_front (counts_of os 0)) ++ totals_of x t
unfolding json_summary
summary_is os x t = concat-append (summary_front (counts_of os 0)) (decimal x ∷ time_key ∷ exact_seconds t ∷ json_end ∷ [])

-- a summary of these rows, by their counts
pub summary_front_is : (entries : List Entry) (counts : Conclusion) (line : List ℕ) (v : ℕ × ℕ) → HasCounts counts entries → IsSummary entries v line
    → line ≡ concat (summary_front counts) ++ totals_of v.0 v.1
summary_front_is entries counts line v e h =
    h.2 ∙ summary_is (outcomes_in entries) v.0 v.1
    ∙ ap (λ (c : Conclusion). concat (summary_front c) ++ totals_of v.0 v.1) (sym e)

-- what is read after the counts is what the line says
pub summary_read : (entries : List Entry) (counts : Conclusion) (line rest : List ℕ) (o : Option (ℕ × ℕ)) → HasCounts counts entries → line ≡ concat (summary_front counts) ++ rest
    → Decodes IsTotals rest o → Decodes (IsSummary entries) line o
summary_read entries counts line rest None e f d = λ v h. d v (h.0, h.1, append_cancel_left (concat (summary_front counts)) rest (totals_of v.0 v.1) (sym f ∙ summary_front_is entries counts line v e h))
summary_read entries counts line rest (Some found) e f d =
    let whole : line ≡ json_summary (counts_of (outcomes_in entries) found.0) found.1 =
    f ∙ ap (λ (y : List ℕ). concat (summary_front counts) ++ y) d.0.2 ∙ ap (λ (c : Conclusion). concat (summary_front c) ++ totals_of found.0 found.1) e ∙ sym (summary_is (outcomes_in entries) found.0 found.1) in (
      (d.0.0, d.0.1, whole),
      λ v h. d.1 v (h.0, h.1, append_cancel_left (concat (summary_front counts)) rest (totals_of v.0 v.1) (sym f ∙ summary_front_is entries counts line v e h)),
    )
