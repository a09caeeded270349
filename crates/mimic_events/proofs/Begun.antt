-- Which lines begin a report: those that lead from the start to some state, and no others.
use Rattle.std.proofs.Common.{◌≡◌, ◌⊎◌, ℕ, zero, suc, ◌+◌, ◌-◌, ◌<◌, ◌^◌, List, [], ◌∷◌, ◌++◌, length, None, Bool, true, false, refl, sym, ap, subst, ◌∙◌, append_assoc, append-nil, inl, inr, arith}
use Rattle.std.specs.Bool.{then_some}
use Rattle.std.specs.List.{AllByRecursion, concat, flat_map}
use Rattle.std.proofs.lemmas.List.{length-append}
use Rattle.std.proofs.lemmas.List.Folds.{concat-append}
use Rattle.std.proofs.lemmas.Str.{IsUtf8-nil}
use Rattle.mimic_trial.specs.declared.outcome.Outcome.TheVariants.{Passed}
use Rattle.mimic_trial.specs.Count.{counts_of}
use Rattle.mimic_printer.specs.Row.{Label}
use Rattle.mimic_printer.specs.Json.{Contents, Entry, FitsEntry, IsLine, entry_lines, json_announcement, json_outcome, json_summary, json_title, outcomes_in}
use Rattle.mimic_printer.proofs.JsonLines.{each_append}
use Rattle.mimic_events.specs.Contents.{Spells}
use Rattle.mimic_events.specs.Progress.{Fits, FitsNext, LeadsFrom, Next, Runs, State, Step, lines_from, start, state_text, text_so_far, title_and, title_next, row_next, outcome_next, nothing_next}
use Rattle.mimic_events.specs.Readers.{Known, Leads}
use Rattle.mimic_events.specs.Reading.{Decodes}
use Rattle.mimic_events.specs.SoFar.{BeginsReport, IsFirstWrong}
use Rattle.mimic_events.proofs.Readings.{ended, over, report_leads, report_read}
use Rattle.mimic_events.proofs.States.{fits_more, rows_more, step_keeps}
use Rattle.mimic_events.proofs.WholeLines.{line_some, no_line, one_line}

-- ---- what was read begins a report

front_begins : (a b : List ℕ) → BeginsReport (a ++ b) → BeginsReport a
front_begins a b h = record {
  contents = h.contents;
  rest = b ++ h.rest;
  few = h.few;
  spelled = subst (Spells h.contents) (append_assoc a b h.rest) h.spelled;
}

report_begins : (c : Contents) → Fits (over c) → BeginsReport (state_text (over c))
report_begins c fits = record {
  contents = c;
  rest = [];
  few = fits.announced;
  spelled = subst (Spells c) (sym (append-nil (state_text (over c)))) (report_read c fits);
}

-- a row that may come next
abbrev blank : Label → Entry
blank label = record { label = label; outcome = Passed; nanos = None }

abbrev nameless : Label
nameless = record { kind = []; name = [] }

-- the title and some rows, if `k` more may come
rows_begin : (k n : ℕ) (es : List Entry) → length es + k ≡ n → n < 2 ^ 64 → AllByRecursion FitsEntry es → BeginsReport (json_title n ++ concat (flat_map entry_lines es))
rows_begin zero n es all small fits =
    let c : Contents = record { entries = es; filtered_out = 0; nanos = 0 } in
    let few : length es < 2 ^ 64 = omega (arith, all, small) in
    let whole = report_begins c (record { announced = few; entries = fits; next = (refl, omega arith, omega arith) }) in
    subst (λ (m : ℕ). BeginsReport (json_title m ++ concat (flat_map entry_lines es))) (omega (arith, all))
    (front_begins (title_and (over c)) (json_summary (counts_of (outcomes_in es) 0) 0) whole)
rows_begin (suc k) n es all small fits =
    let e : Entry = blank nameless in
    let more = rows_begin k n (es ++ e ∷ []) (omega (arith, all, length-append es (e ∷ []))) small
    (fits_more es e fits (record { label = record { name = IsUtf8-nil; kind = IsUtf8-nil }; outcome = tt; nanos = tt })) in
    front_begins (json_title n ++ concat (flat_map entry_lines es)) (json_announcement nameless ++ json_outcome nameless Passed None)
    (simp append_assoc (rw (rows_more es e) at more))

begins_at : (next : Next) (s : State) → s.announced < 2 ^ 64 → AllByRecursion FitsEntry s.entries → FitsNext next s → BeginsReport (text_so_far next s)
begins_at title_next s small fits at =
    let c : Contents = record { entries = []; filtered_out = 0; nanos = 0 } in
    front_begins [] (state_text (over c)) (report_begins c (record { announced = omega arith; entries = tt; next = (refl, omega arith, omega arith) }))
begins_at row_next s small fits at = rows_begin (s.announced - length s.entries) s.announced s.entries (omega (arith, at)) small fits
begins_at (outcome_next label) s small fits at =
    let e : Entry = blank label in
    let more = rows_begin (s.announced - (length s.entries + 1)) s.announced (s.entries ++ e ∷ []) (omega (arith, at.0, length-append s.entries (e ∷ []))) small
    (fits_more s.entries e fits (record { label = at.1; outcome = tt; nanos = tt })) in
    front_begins (title_and s ++ json_announcement label) (json_outcome label Passed None) (simp append_assoc (rw (rows_more s.entries e) at more))
begins_at (nothing_next filtered_out nanos) s small fits at =
    let c : Contents = record { entries = s.entries; filtered_out = filtered_out; nanos = nanos } in
    let few : length s.entries < 2 ^ 64 = omega (arith, at.0, small) in
    subst (λ (m : ℕ). BeginsReport ((json_title m ++ concat (flat_map entry_lines s.entries)) ++ json_summary (counts_of (outcomes_in s.entries) filtered_out) nanos)) at.0
    (report_begins c (record { announced = few; entries = fits; next = (refl, at.1, at.2) }))

state_begins : (s : State) → Fits s → BeginsReport (state_text s)
state_begins s fits = begins_at s.next s fits.announced fits.entries fits.next

-- ---- lines that begin a report lead somewhere

-- lines at the front of others that lead somewhere
front_runs : (lines all : List (List ℕ)) (s u : State) (rest : List ℕ) → AllByRecursion IsLine lines → AllByRecursion IsLine all → Runs s all u → concat lines ++ rest ≡ concat all → (t : State) × Runs s lines t
front_runs [] all s u rest each each-all run e = (s, refl)
front_runs (l ∷ lines) [] s u rest each each-all run e =
    absurd (omega (arith, ap length e, line_some l each.0, length-append l (concat lines), length-append (l ++ concat lines) rest))
front_runs (l ∷ lines) (m ∷ all) s u rest each each-all (next, step, run) e =
    let same = one_line l m (concat lines ++ rest) (concat all) each.0 each-all.0 (sym (append_assoc l (concat lines) rest) ∙ e) in
    let on = front_runs lines all next u rest each.1 each-all.1 run same.1 in
    (on.0, (next, subst (λ (k : List ℕ). Step s k next) (sym same.0) step, on.1))

begun_runs : (lines : List (List ℕ)) → AllByRecursion IsLine lines → BeginsReport (concat lines) → (t : State) × Runs start lines t
begun_runs lines each h =
    let lead = report_leads (concat lines ++ h.rest) h.contents h.spelled h.few in
    front_runs lines lead.lines start (over h.contents) h.rest each lead.each lead.run (lead.parts ∙ append-nil (concat lead.lines))

-- ---- runs, line by line

fits_start : Fits start
fits_start = record { announced = omega arith; entries = tt; next = refl }

run_keeps : (lines : List (List ℕ)) (s t : State) → Fits s → Runs s lines t → (state_text t ≡ state_text s ++ concat lines) × Fits t
run_keeps [] s t fits run = (ap state_text (sym run) ∙ sym (append-nil (state_text s)), subst Fits run fits)
run_keeps (l ∷ lines) s t fits (next, step, run) =
    let one = step_keeps s l next fits step in
    let rest = run_keeps lines next t one.1 run in
    (rest.0 ∙ ap (λ (x : List ℕ). x ++ concat lines) one.0 ∙ append_assoc (state_text s) l (concat lines), rest.1)

abbrev pub lines_of : State → ℕ
lines_of s = lines_from s.next (length s.entries)

line_more : (next : Next) (s : State) (line : List ℕ) (t : State) → FitsNext next s → LeadsFrom next s line t → lines_of t ≡ lines_from next (length s.entries) + 1
line_more title_next s line t at (count, is, e) = omega (arith, ap length at, ap lines_of e)
line_more row_next s line t at (inl (more, label, is, e)) = omega (arith, ap lines_of e)
line_more row_next s line t at (inr (all, numbers, is, e)) = omega (arith, ap lines_of e)
line_more (outcome_next label) s line t at (end, is, e) =
    omega (arith, ap lines_of e, length-append s.entries (record { label = label; outcome = end.0; nanos = end.1 } ∷ []))
line_more (nothing_next filtered_out nanos) s line t at h = absurd h

lines_more : (lines : List (List ℕ)) (s t : State) → Fits s → Runs s lines t → lines_of t ≡ lines_of s + length lines
lines_more [] s t fits run = omega (arith, ap lines_of run)
lines_more (l ∷ lines) s t fits (next, step, run) =
    omega (arith, line_more s.next s l next fits.next step, lines_more lines next t (step_keeps s l next fits step).1 run)

-- the text begins with a line: nothing was read, or a step over that line
first_step : (s : State) (text : List ℕ) (t : State) (after line more : List ℕ) → IsLine line → text ≡ line ++ more → Leads s text t after → ((s ≡ t) × (text ≡ after)) ⊎ ((u : State) × Step s line u)
first_step s text t after line more is whole lead = at lead.lines lead.each lead.run lead.parts
  where
    at : (lines : List (List ℕ)) → AllByRecursion IsLine lines → Runs s lines t → text ≡ concat lines ++ after → ((s ≡ t) × (text ≡ after)) ⊎ ((u : State) × Step s line u)
    at [] each run e = inl (run, e)
    at (l ∷ lines) each run e =
        let same = one_line line l more (concat lines ++ after) is each.0 (sym whole ∙ e ∙ append_assoc l (concat lines) after) in
        inr (run.0, subst (λ (k : List ℕ). Step s k run.0) (sym same.0) run.1)

not_empty : (line rest : List ℕ) → IsLine line → [] ≡ line ++ rest → ⊥
not_empty line rest is e = omega (arith, ap length e, line_some line is, length-append line rest)

-- ---- the first wrong line

text_led : (s : State) (led : Leads start (state_text s) s []) → state_text s ≡ concat led.lines
text_led s led = led.parts ∙ append-nil (concat led.lines)

-- no report has a line there that leads nowhere
none_there : (s : State) (rest line : List ℕ) (stuck : Bool) (known : Known s rest stuck) → IsLine line → ((u : State) → Step s line u → ⊥) → BeginsReport (state_text s ++ line) → ⊥
none_there s rest line stuck known is nowhere h =
    let lines : List (List ℕ) = known.led.lines ++ line ∷ [] in
    let text : state_text s ++ line ≡ concat lines = ap (λ (x : List ℕ). x ++ line) (text_led s known.led) ∙ ap (λ (x : List ℕ). concat known.led.lines ++ x) (sym (append-nil line)) ∙ sym (concat-append known.led.lines (line ∷ [])) in
    let each : AllByRecursion IsLine lines = each_append known.led.lines (line ∷ []) known.led.each (is, tt) in
    let there = begun_runs lines each (subst BeginsReport text h) in
    let lead : Leads start (state_text s ++ line) there.0 [] = record { lines = lines; each = each; run = there.1; parts = text ∙ sym (append-nil (concat lines)) } in
    elim (known.way line there.0 [] lead) [
      | inl on ↦ elim (first_step s line there.0 [] line [] is (sym (append-nil line)) on) [
        | inl none ↦ not_empty line [] is (sym none.1 ∙ sym (append-nil line))
        | inr step ↦ nowhere step.0 step.1
      ]
      | inr back ↦ omega (arith, ap length back.parts, line_some line is, length-append (concat back.lines) line)
    ]

-- if the rest begins with a line that leads nowhere, this is the first wrong one
pub is_wrong : (s : State) (rest : List ℕ) → Known s rest true → IsFirstWrong (lines_of s + 1) (state_text s ++ rest)
is_wrong s rest known =
    let text = text_led s known.led in
    let count : lines_of s ≡ length known.led.lines = omega (arith, lines_more known.led.lines start s fits_start known.led.run) in
    record {
      lines = known.led.lines;
      line = known.unread.line;
      rest = known.unread.more;
      parts = ap (λ (x : List ℕ). x ++ rest) text ∙ ap (λ (x : List ℕ). concat known.led.lines ++ x) known.unread.parts;
      each = known.led.each;
      whole = known.unread.whole;
      place = omega (arith, count);
      begun = subst BeginsReport text (state_begins s known.fits);
      wrong = λ h. none_there s rest known.unread.line true known known.unread.whole known.unread.nowhere (subst (λ (x : List ℕ). BeginsReport (x ++ known.unread.line)) (sym text) h);
    }

-- where the first wrong line is
record StandsHere (s : State) (rest : List ℕ) (number : ℕ) : Type 0 where
  pub line : List ℕ
  pub more : List ℕ
  pub whole : IsLine line
  pub parts : rest ≡ line ++ more
  pub place : number ≡ lines_of s + 1

-- no step is over a wrong line
wrong_step : (text : List ℕ) (n : ℕ) (h : IsFirstWrong n text) (t u : State) → Runs start h.lines t → Step t h.line u → ⊥
wrong_step text n h t u run step =
    let there = run_keeps h.lines start t fits_start run in
    let on = step_keeps t h.line u there.1 step in
    h.wrong (subst BeginsReport (on.0 ∙ ap (λ (x : List ℕ). x ++ h.line) there.0) (state_begins u on.1))

stands_here : (s : State) (rest : List ℕ) (stuck : Bool) (n : ℕ) → Known s rest stuck → IsFirstWrong n (state_text s ++ rest) → StandsHere s rest n
stands_here s rest stuck n known h =
    let there = begun_runs h.lines h.each h.begun in
    let t : State = there.0 in
    let count : lines_of t ≡ length h.lines = omega (arith, lines_more h.lines start t fits_start there.1) in
    let here : s ≡ t → rest ≡ h.line ++ h.rest → StandsHere s rest n = λ e parts.
    record { line = h.line; more = h.rest; whole = h.whole; parts = parts; place = omega (arith, h.place, count, ap lines_of e) } in
    let lead : Leads start (state_text s ++ rest) t (h.line ++ h.rest) = record { lines = h.lines; each = h.each; run = there.1; parts = h.parts } in
    elim (known.way rest t (h.line ++ h.rest) lead) [
      | inl on ↦ let same = ended s rest stuck t (h.line ++ h.rest) known.unread on in here same.0 same.1
      | inr back ↦ elim (first_step t (h.line ++ h.rest) s rest h.line h.rest h.whole refl back) [
        | inl same ↦ here (sym same.0) (sym same.1)
        | inr step ↦ absurd (wrong_step (state_text s ++ rest) n h t step.0 there.1 step.1)
      ]
    ]

-- if the rest begins with a line that leads nowhere, that is the first wrong one
pub finds_first : (s : State) (rest : List ℕ) (stuck : Bool) (n : ℕ) → Known s rest stuck → n ≡ lines_of s + 1
    → Decodes IsFirstWrong (state_text s ++ rest) (then_some stuck n)
finds_first s rest true n known e = (
  subst (λ (k : ℕ). IsFirstWrong k (state_text s ++ rest)) (sym e) (is_wrong s rest known),
  λ v h. (stands_here s rest true v known h).place ∙ sym e,
)
finds_first s rest false n known e = λ v h.
    let here = stands_here s rest false v known h in
    no_line here.line here.more rest here.whole known.unread (sym here.parts)
