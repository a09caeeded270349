-- A report that is written: its text, part by part.
use Rattle.std.proofs.Common.{◌≡◌, ℕ, List, [], ◌∷◌, ◌++◌, length, map, refl, sym, ap, subst, ◌∙◌, append-nil}
use Rattle.std.specs.Prelude.{false, Result, Ok, Err, OnOk, Option, None, Some, All, ◌<◌, ◌^◌}
use Rattle.std.specs.List.{concat, flat_map}
use Rattle.std.proofs.lemmas.List.{length-map}
use Rattle.std.proofs.lemmas.List.Elements.{All-map, recursion_from_All}
use Rattle.std.proofs.lemmas.List.Folds.{concat-append}
use Rattle.mimic_trial.specs.declared.outcome.Outcome.{Outcome}
use Rattle.mimic_trial.specs.declared.outcome.Conclusion.{Conclusion}
use Rattle.mimic_trial.specs.Count.{counts_of}
use Rattle.mimic_printer.specs.Json.{Entry, conclusion_of, entry_lines, FitsEntry, IsJsonReport, json_announcement, json_outcome, json_report, json_summary, json_title}
use Rattle.mimic_printer.specs.Row.{Label}
use Rattle.mimic_printer.specs.Sink.{Adds, Ends, keeps_fault}
use Rattle.mimic_printer.specs.declared.sink.Sink.{Sink}
use Rattle.mimic_printer.proofs.Adding.{adds_then}
use Rattle.mimic_events.specs.Contents.{contents_read, entry_read}
use Rattle.mimic_events.specs.Reading.{Decodes, IsReadAs}
use Rattle.mimic_events.specs.declared.report.Report.{Report}
use Rattle.mimic_events.specs.declared.report.Row.{Row}
use Rattle.mimic_events.specs.Written.{FitsRow, row_lines}

-- ---- a row

pub row_added : {W : Type 0} {contents : W → Option (List ℕ)} {a b : Sink W} (l m : Label) (o : Outcome) (time : Option ℕ) → l ≡ m
    → Adds contents a b (json_announcement l ++ json_outcome l o time) → Adds contents a b (json_announcement m ++ (json_outcome m o time ++ []))
row_added l m o time e p = rw (append-nil, ← e) p

-- ---- the text

entries_flat : (rows : List Row) → concat (flat_map entry_lines (map entry_read rows)) ≡ flat_map row_lines rows
entries_flat [] = refl
entries_flat (row ∷ rows) =
    concat-append (entry_lines (entry_read row)) (flat_map entry_lines (map entry_read rows)) ∙ ap (λ (l : List ℕ). row_lines row ++ l) (entries_flat rows)

outcomes_same : (rows : List Row) → map (λ (entry : Entry). entry.outcome) (map entry_read rows) ≡ map (λ (row : Row). row.outcome) rows
outcomes_same [] = refl
outcomes_same (row ∷ rows) = ap (λ (l : List Outcome). row.outcome ∷ l) (outcomes_same rows)

-- the text of a report, by its title, its rows and its summary
pub report_parts : (r : Report) → json_report (contents_read r)
    ≡ json_title (length r.rows.items) ++ (flat_map row_lines r.rows.items ++ json_summary (conclusion_of (contents_read r)) r.nanos)
unfolding json_report
report_parts r = simp (length-map, concat-append, entries_flat, append-nil)

pub spells : (r : Report) (rows : List Row) → rows ≡ r.rows.items → All FitsRow rows → r.filtered_out < 2 ^ 64 → r.nanos < 2 ^ 64
    → IsJsonReport (json_report (contents_read r)) (contents_read r)
spells r rows e fit h k = record {
  text = refl;
  entries = recursion_from_All FitsEntry (map entry_read r.rows.items) (All-map FitsEntry entry_read r.rows.items (subst (All FitsRow) e fit));
  filtered_out = h;
  nanos = k;
}

-- ---- its parts one after another

pub all_added : {W : Type 0} {contents : W → Option (List ℕ)} {a b c d : Sink W} (r : Report) (n : ℕ) (rows : List Row) (counts : Conclusion)
    → n ≡ length r.rows.items → rows ≡ r.rows.items → counts ≡ conclusion_of (contents_read r)
    → Adds contents a b (json_title n) → Adds contents b c (flat_map row_lines rows) → Adds contents c d (json_summary counts r.nanos)
    → Adds contents a d (json_report (contents_read r))
all_added r n rows counts e f k o p q =
    rw (report_parts r, ← k, ← e, ← f) (adds_then _ _ o (adds_then _ _ p q))

pub same_counts : (r : Report) (rows : List Row) (counts : Conclusion) → rows ≡ r.rows.items → counts ≡ counts_of (map (λ (row : Row). row.outcome) rows) r.filtered_out
    → counts ≡ conclusion_of (contents_read r)
same_counts r rows counts same e = rw same at e ∙ ap (λ (os : List Outcome). counts_of os r.filtered_out) (sym (outcomes_same r.rows.items))

-- what holds if no fault was kept before the last part holds if the text was written to its end
pub on_ended : {W E T : Type 0} {contents : W → Option (List ℕ)} {a b c : Sink W} {text : List ℕ} {r : Result T E} → Adds contents a b text → Ends b c r
    → (P : Type 0) → (keeps_fault a ≡ false → P) → OnOk r P
on_ended {r = Ok x} last end P p = p (last.whole end.counted.0).0
on_ended {r = Err e} last end P p = tt

-- ---- read back

-- what a text spells is all that a reader finds in it
pub read_as : {V : Type 0} (spells : V → List ℕ → Type 0) (value : V) (bytes : List ℕ) → spells value bytes → IsReadAs spells bytes value
read_as {V} spells value bytes s = only
  where
    only : (found : Option V) → Decodes spells bytes found → found ≡ Some value
    only None d = absurd (d value s)
    only (Some other) d = ap Some (sym (d.1 value s))
