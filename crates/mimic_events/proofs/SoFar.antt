-- What the lines that were read say so far.
use Rattle.std.proofs.Common.{◌≡◌, ◌≢◌, ℕ, ◌<◌, ◌^◌, List, [], ◌∷◌, ◌++◌, Bool, true, false, Option, Some, refl, sym, ap, subst, ◌∙◌, append_assoc, inl, inr, arith}
use Rattle.std.specs.List.{concat, flat_map}
use Rattle.mimic_trial.specs.Promise.{FitsTypes}
use Rattle.mimic_printer.specs.Row.{Label}
use Rattle.mimic_printer.specs.Json.{Entry, FitsLabel, FitsTime, IsLine, entry_lines, json_announcement, json_outcome}
use Rattle.mimic_printer.proofs.JsonLines.{announcement_line, rows_each}
use Rattle.mimic_events.specs.Reading.{Decodes, End}
use Rattle.mimic_events.specs.Progress.{Fits, FitsNext, LeadsFrom, Next, Runs, State, announced_from, running_from, start, state_text, text_so_far, title_next, row_next, outcome_next, nothing_next}
use Rattle.mimic_events.specs.Readers.{IsUnread, Known, Leads}
use Rattle.mimic_events.specs.SoFar.{BeginsWithTitle, ShowsRunning}
use Rattle.mimic_events.proofs.FewRows.{behind_rows, with_title}
use Rattle.mimic_events.proofs.Readings.{behind, ended, led_on, rows_lead}
use Rattle.mimic_events.proofs.WholeLines.{no_line, one_line}

-- ---- the number that was announced

abbrev announced_in : State → Option ℕ
announced_in s = announced_from s.next s.announced

stays_from : (next : Next) (s : State) (line : List ℕ) (t : State) (n : ℕ) → announced_from next s.announced ≡ Some n → LeadsFrom next s line t → announced_in t ≡ Some n
stays_from title_next s line t n h step = absurd cc
stays_from row_next s line t n h (inl (more, label, is, e)) = ap announced_in e ∙ h
stays_from row_next s line t n h (inr (all, numbers, is, e)) = ap announced_in e ∙ h
stays_from (outcome_next label) s line t n h (end, is, e) = ap announced_in e ∙ h
stays_from (nothing_next filtered_out nanos) s line t n h step = absurd step

-- a title that was read stays the title
stays : (lines : List (List ℕ)) (s t : State) (n : ℕ) → announced_in s ≡ Some n → Runs s lines t → announced_in t ≡ Some n
stays [] s t n h run = ap announced_in (sym run) ∙ h
stays (l ∷ lines) s t n h (next, step, run) = stays lines next t n (stays_from s.next s l next n h step) run

title_read : (s : State) (rest : List ℕ) (stuck : Bool) → Known s rest stuck → (n : ℕ) → BeginsWithTitle n (state_text s ++ rest) → announced_in s ≡ Some n
title_read s rest stuck known n h =
    let lead = rows_lead (state_text s ++ rest) [] (record { announced = n; rest = h.rest; number = h.number; within = omega arith; fits = tt; parts = h.parts }) in
    elim (known.way rest (behind n []) h.rest lead) [
      | inl on ↦ ap announced_in (ended s rest stuck (behind n []) h.rest known.unread on).0
      | inr back ↦ stays back.lines (behind n []) s n refl back.run
    ]

title_at : (next : Next) (s : State) (rest : List ℕ) → s.announced < 2 ^ 64
    → ((n : ℕ) → BeginsWithTitle n (text_so_far next s ++ rest) → announced_from next s.announced ≡ Some n)
    → Decodes BeginsWithTitle (text_so_far next s ++ rest) (announced_from next s.announced)
title_at title_next s rest small only = λ n h. let e = only n h in absurd cc
title_at next s rest small only = (
  record { rest = concat (flat_map entry_lines s.entries) ++ (behind_rows next s ++ rest); number = small; parts = with_title next s rest s.announced refl },
  λ n h. let e = only n h in cc,
)

pub finds_title : (s : State) (rest : List ℕ) (stuck : Bool) → Known s rest stuck → Decodes BeginsWithTitle (state_text s ++ rest) (announced_from s.next s.announced)
finds_title s rest stuck known = title_at s.next s rest known.fits.announced (title_read s rest stuck known)

-- ---- the trial that runs

abbrev running_in : State → Option Label
running_in s = running_from s.next

-- after its announcement
abbrev announced_state : (label : Label) (text : List ℕ) → ShowsRunning label text → State
announced_state label text h = record { next = outcome_next label; announced = h.begins.announced; entries = h.entries }

announcement_leads : (label : Label) (text : List ℕ) (h : ShowsRunning label text) → Leads start text (announced_state label text h) h.rest
announcement_leads label text h =
    let rows = subst (λ (x : List ℕ). Leads start text (behind h.begins.announced h.entries) x) h.announced (rows_lead text h.entries h.begins) in
    led_on (behind h.begins.announced h.entries) (json_announcement label) (announced_state label text h) start h.rest text (announcement_line label)
    (inl (h.fewer, label, (h.label_fits, refl), refl)) rows

running_read : (s : State) (rest : List ℕ) (stuck : Bool) → Known s rest stuck → (label : Label) → ShowsRunning label (state_text s ++ rest) → running_in s ≡ Some label
running_read s rest stuck known label h =
    let there : State = announced_state label (state_text s ++ rest) h in
    elim (known.way rest there h.rest (announcement_leads label (state_text s ++ rest) h)) [
      | inl on ↦ ap running_in (ended s rest stuck there h.rest known.unread on).0
      | inr back ↦ at back.lines back.run back.parts
    ]
  where
    at : (lines : List (List ℕ)) → Runs (announced_state label (state_text s ++ rest) h) lines s → h.rest ≡ concat lines ++ rest → running_in s ≡ Some label
    at [] run e = ap running_in (sym run)
    at (l ∷ lines) (next, (end, is, same), run) e =
        absurd (h.unended end (concat lines ++ rest) is.0 is.1 (e ∙ append_assoc l (concat lines) rest ∙ ap (λ (x : List ℕ). x ++ (concat lines ++ rest)) is.2))

-- no outcome of the trial follows
pub an_outcome : (label : Label) (end : End) → FitsLabel label → FitsTypes end.0 → FitsTime end.1 → IsLine (json_outcome label end.0 end.1)
an_outcome label end named fits lasts =
    (rows_each (record { label = label; outcome = end.0; nanos = end.1 } ∷ []) (record { label = named; outcome = fits; nanos = lasts }, tt)).1.0

unended : (s : State) (rest : List ℕ) (stuck : Bool) (label : Label) → s.next ≡ outcome_next label → FitsLabel label → IsUnread stuck s rest → (end : End) (after : List ℕ)
    → FitsTypes end.0 → FitsTime end.1 → rest ≢ json_outcome label end.0 end.1 ++ after
unended s rest false label at named unread end after fits lasts e = no_line (json_outcome label end.0 end.1) after rest (an_outcome label end named fits lasts) unread (sym e)
unended s rest true label at named unread end after fits lasts e =
    let same = one_line unread.line (json_outcome label end.0 end.1) unread.more after unread.whole (an_outcome label end named fits lasts) (sym unread.parts ∙ e) in
    let one : Entry = record { label = label; outcome = end.0; nanos = end.1 } in
    let next : State = record s { next = row_next; entries = s.entries ++ one ∷ [] } in
    unread.nowhere next (subst (λ (n : Next). LeadsFrom n s unread.line next) (sym at) (end, (fits, lasts, same.0), refl))

running_at : (next : Next) (s : State) (rest : List ℕ) (stuck : Bool) → s.next ≡ next → Fits s → FitsNext next s → IsUnread stuck s rest
    → ((label : Label) → ShowsRunning label (text_so_far next s ++ rest) → running_from next ≡ Some label)
    → Decodes ShowsRunning (text_so_far next s ++ rest) (running_from next)
running_at title_next s rest stuck e fits at unread only = λ label h. let f = only label h in absurd cc
running_at row_next s rest stuck e fits at unread only = λ label h. let f = only label h in absurd cc
running_at (outcome_next label) s rest stuck e fits at unread only = (
  record {
    entries = s.entries;
    begins = record {
      announced = s.announced;
      rest = json_announcement label ++ rest;
      number = fits.announced;
      within = omega (arith, at.0);
      fits = fits.entries;
      parts = with_title (outcome_next label) s rest s.announced refl;
    };
    fewer = at.0;
    rest = rest;
    announced = refl;
    label_fits = at.1;
    unended = unended s rest stuck label e at.1 unread;
  },
  λ other h. let f = only other h in cc,
)
running_at (nothing_next filtered_out nanos) s rest stuck e fits at unread only = λ label h. let f = only label h in absurd cc

pub finds_running : (s : State) (rest : List ℕ) (stuck : Bool) → Known s rest stuck → Decodes ShowsRunning (state_text s ++ rest) (running_from s.next)
finds_running s rest stuck known = running_at s.next s rest stuck refl known.fits known.fits.next known.unread (running_read s rest stuck known)
