-- Steps over one line: the text that a step reads, and what it keeps.
use Rattle.std.proofs.Common.{◌≡◌, ℕ, ◌<◌, ◌≤◌, ◌^◌, List, [], ◌∷◌, ◌++◌, length, refl, sym, ap, subst, ◌∙◌, append_assoc, append-nil, arith, ◌⊎◌, inl, inr, Some, true}
use Rattle.std.specs.List.{concat, flat_map, AllByRecursion}
use Rattle.std.proofs.lemmas.List.{length-append}
use Rattle.std.proofs.lemmas.List.Concat.{flat_map-append}
use Rattle.std.proofs.lemmas.List.Folds.{concat-append}
use Rattle.mimic_printer.specs.Row.{Label}
use Rattle.mimic_printer.specs.Json.{Entry, FitsEntry, entry_lines, json_announcement, json_outcome}
use Rattle.mimic_events.specs.Progress.{Announces, Ends, Fits, FitsNext, LeadsFrom, Next, State, Step, Takes, state_text, text_so_far, title_and, title_next, row_next, outcome_next, nothing_next}
use Rattle.mimic_events.specs.Reading.{Decodes, End, IsAnnouncement, IsOutcome, IsSummary, IsTitle}

-- ---- a step

pub fits_more : (entries : List Entry) (e : Entry) → AllByRecursion FitsEntry entries → FitsEntry e → AllByRecursion FitsEntry (entries ++ e ∷ [])
fits_more [] e h one = (one, tt)
fits_more (x ∷ entries) e h one = (h.0, fits_more entries e h.1 one)

-- the lines of rows, and those of one more
pub rows_more : (entries : List Entry) (e : Entry) → concat (flat_map entry_lines (entries ++ e ∷ [])) ≡ concat (flat_map entry_lines entries) ++ (json_announcement e.label ++ json_outcome e.label e.outcome e.nanos)
rows_more entries e =
    ap concat (flat_map-append entry_lines entries (e ∷ [])) ∙ concat-append (flat_map entry_lines entries) (entry_lines e) ∙ simp append-nil

-- a step adds its line to the text, and what fitted fits on
abbrev Keeps : List ℕ → List ℕ → State → Type 0
Keeps text line new = (state_text new ≡ text ++ line) × Fits new

keeps_from : (next : Next) (old : State) (line : List ℕ) (new : State) → old.announced < 2 ^ 64 → AllByRecursion FitsEntry old.entries → FitsNext next old → LeadsFrom next old line new → Keeps (text_so_far next old) line new
keeps_from title_next old line new few fits at (count, is, e) =
    let there : State = record old { next = row_next; announced = count } in
    let text : state_text there ≡ line = rw (at, is.1, append-nil) refl in
    subst (Keeps [] line) (sym e) (text, record { announced = is.0; entries = fits; next = rw at (omega arith) })
keeps_from row_next old line new few fits at (inl (more, label, is, e)) =
    let there : State = record old { next = outcome_next label } in
    subst (Keeps (title_and old) line) (sym e) (ap (λ (l : List ℕ). title_and old ++ l) (sym is.1), record { announced = few; entries = fits; next = (more, is.0) })
keeps_from row_next old line new few fits at (inr (all, numbers, is, e)) =
    let there : State = record old { next = nothing_next numbers.0 numbers.1 } in
    subst (Keeps (title_and old) line) (sym e) (ap (λ (l : List ℕ). title_and old ++ l) (sym is.2), record { announced = few; entries = fits; next = (omega (arith, at, all), is.0, is.1) })
keeps_from (outcome_next label) old line new few fits at (end, is, e) =
    let one : Entry = record { label = label; outcome = end.0; nanos = end.1 } in
    let there : State = record old { next = row_next; entries = old.entries ++ one ∷ [] } in
    let lines = rows_more old.entries one in
    let text : state_text there ≡ text_so_far (outcome_next label) old ++ line = rw (is.2, lines) (simp append_assoc) in
    subst (Keeps (text_so_far (outcome_next label) old) line) (sym e) (
      text,
      record {
        announced = few;
        entries = fits_more old.entries one fits (record { label = at.1; outcome = is.0; nanos = is.1 });
        next = omega (arith, at.0, length-append old.entries (one ∷ []));
      },
    )
keeps_from (nothing_next filtered_out nanos) old line new few fits at h = absurd h

pub step_keeps : (old : State) (line : List ℕ) (new : State) → Fits old → Step old line new → (state_text new ≡ state_text old ++ line) × Fits new
step_keeps old line new fits step = keeps_from old.next old line new fits.announced fits.entries fits.next step

-- ---- lines that belong there

pub takes_title : (s : State) (line : List ℕ) (count : ℕ) → s.next ≡ title_next → Decodes IsTitle line (Some count) → Takes true s line (record s { next = row_next; announced = count })
takes_title s line count at d = rw at ((count, d.0, refl), λ t h. h.2 ∙ ap (λ (k : ℕ). record s { next = row_next; announced = k }) (d.1 h.0 h.1))

one_label : (s : State) (line : List ℕ) (label : Label) (t : State) → length s.entries < s.announced → ((u : Label) → IsAnnouncement u line → u ≡ label) → Announces s line t ⊎ Ends s line t → t ≡ record s { next = outcome_next label }
one_label s line label t more only (inl (less, other, is, e)) = e ∙ ap (λ (u : Label). record s { next = outcome_next u }) (only other is)
one_label s line label t more only (inr (all, numbers, is, e)) = absurd (omega (arith, more, all))

pub takes_announcement : (s : State) (line : List ℕ) (label : Label) → s.next ≡ row_next → length s.entries < s.announced → Decodes IsAnnouncement line (Some label) → Takes true s line (record s { next = outcome_next label })
takes_announcement s line label at more d = rw at (inl (more, label, d.0, refl), λ t h. one_label s line label t more d.1 h)

pub takes_outcome : (s : State) (line : List ℕ) (label : Label) (end : End) → s.next ≡ outcome_next label → Decodes (IsOutcome label) line (Some end)
    → Takes true s line (record s { next = row_next; entries = s.entries ++ record { label = label; outcome = end.0; nanos = end.1 } ∷ [] })
takes_outcome s line label end at d =
    rw at ((end, d.0, refl), λ t h. h.2 ∙ ap (λ (x : End). record s { next = row_next; entries = s.entries ++ record { label = label; outcome = x.0; nanos = x.1 } ∷ [] }) (d.1 h.0 h.1))

-- ---- after all rows

one_end : (s : State) (line : List ℕ) (v : ℕ × ℕ) (t : State) → s.announced ≤ length s.entries → ((u : ℕ × ℕ) → IsSummary s.entries u line → u ≡ v) → Announces s line t ⊎ Ends s line t → t ≡ record s { next = nothing_next v.0 v.1 }
one_end s line v t all only (inl (more, label, is, e)) = absurd (omega (arith, more, all))
one_end s line v t all only (inr (done, numbers, is, e)) = e ∙ ap (λ (u : ℕ × ℕ). record s { next = nothing_next u.0 u.1 }) (only numbers is)

pub takes_summary : (s : State) (line : List ℕ) (v : ℕ × ℕ) → s.next ≡ row_next → s.announced ≤ length s.entries → Decodes (IsSummary s.entries) line (Some v) → Takes true s line (record s { next = nothing_next v.0 v.1 })
takes_summary s line v at all d = rw at (inr (all, v, d.0, refl), λ t h. one_end s line v t all d.1 h)
