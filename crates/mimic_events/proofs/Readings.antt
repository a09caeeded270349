-- What is known of the bytes that were read: the one report that they may be, and the rows that have ended.
use Rattle.std.proofs.Common.{◌≡◌, ◌≢◌, ◌⊎◌, ℕ, ◌+◌, ◌<◌, ◌≤◌, ◌^◌, List, [], ◌∷◌, ◌++◌, Bool, true, false, length, Option, Some, None, refl, sym, ap, subst, ◌∙◌, append_assoc, append-nil, inl, inr, arith}
use Rattle.std.specs.List.{flat_map, concat, AllByRecursion}
use Rattle.std.proofs.lemmas.List.{length-append}
use Rattle.std.proofs.lemmas.List.Folds.{concat-append}
use Rattle.mimic_printer.specs.Json.{Entry, Contents, FitsEntry, IsJsonReport, conclusion_of, entry_lines, report_lines, json_title, json_summary, json_report}
use Rattle.mimic_printer.proofs.JsonLines.{each_append, lines_each, no_end-append, rows_each, title_line}
use Rattle.mimic_events.specs.Contents.{Spells, totals_of}
use Rattle.mimic_events.specs.Feed.{AreEnded, BeginsWith}
use Rattle.mimic_events.specs.Reading.{Decodes}
use Rattle.mimic_events.specs.Progress.{Fits, FitsNext, HasNoEnd, IsLine, LeadsFrom, Next, Runs, State, Step, HasTotals, title_next, row_next, outcome_next, nothing_next, start, state_text, text_so_far}
use Rattle.mimic_events.specs.declared.report.Totals.{Totals}
use Rattle.mimic_events.specs.Readers.{IsOnlyWay, IsUnread, Known, Leads, SumsUp, report_with}
use Rattle.mimic_events.proofs.FewRows.{behind_rows, few_rows, with_title}
use Rattle.mimic_events.proofs.WholeLines.{no_line, one_line}
use Rattle.mimic_events.proofs.States.{step_keeps}

-- ---- runs over lines

runs_append : (p q : List (List ℕ)) (s t u : State) → Runs s p t → Runs t q u → Runs s (p ++ q) u
runs_append [] q s t u a b = subst (λ (x : State). Runs x q u) (sym a) b
runs_append (l ∷ p) q s t u a b = (a.0, a.1, runs_append p q a.0 t u a.2 b)

-- the lines of rows lead to the state after them
rows_run : (n : ℕ) (old es : List Entry) → length old + length es ≤ n → AllByRecursion FitsEntry es
    → Runs (record { next = row_next; announced = n; entries = old }) (flat_map entry_lines es) (record { next = row_next; announced = n; entries = old ++ es })
rows_run n old [] le fits = rw append-nil refl
rows_run n old (e ∷ es) le fits =
    let rest = rows_run n (old ++ e ∷ []) es (omega (arith, le, length-append old (e ∷ []))) fits.1 in (
      record { next = outcome_next e.label; announced = n; entries = old },
      inl (omega (arith, le), e.label, (fits.0.label, refl), refl),
      (record { next = row_next; announced = n; entries = old ++ e ∷ [] }, ((e.outcome, e.nanos), (fits.0.outcome, fits.0.nanos, refl), refl), rw append_assoc at rest),
    )

-- a title and the lines of rows lead to the state after them
abbrev pub behind : ℕ → List Entry → State
behind n es = record { next = row_next; announced = n; entries = es }

front_run : (n : ℕ) (es : List Entry) → n < 2 ^ 64 → length es ≤ n → AllByRecursion FitsEntry es → Runs start (json_title n ∷ flat_map entry_lines es) (behind n es)
front_run n es small le fits = (behind n [], (n, (small, refl), refl), rows_run n [] es (omega (arith, le)) fits)

-- rows stay
longer_from : (next : Next) (s : State) (line : List ℕ) (t : State) → LeadsFrom next s line t → (more : List Entry) × (t.entries ≡ s.entries ++ more)
longer_from title_next s line t (count, is, e) = ([], ap (λ (u : State). u.entries) e ∙ sym (append-nil s.entries))
longer_from row_next s line t (inl (more, label, is, e)) = ([], ap (λ (u : State). u.entries) e ∙ sym (append-nil s.entries))
longer_from row_next s line t (inr (all, numbers, is, e)) = ([], ap (λ (u : State). u.entries) e ∙ sym (append-nil s.entries))
longer_from (outcome_next label) s line t (end, is, e) = (record { label = label; outcome = end.0; nanos = end.1 } ∷ [], ap (λ (u : State). u.entries) e)
longer_from (nothing_next filtered_out nanos) s line t h = absurd h

longer : (s : State) (lines : List (List ℕ)) (t : State) → Runs s lines t → (more : List Entry) × (t.entries ≡ s.entries ++ more)
longer s [] t run = ([], ap (λ (u : State). u.entries) (sym run) ∙ sym (append-nil s.entries))
longer s (l ∷ lines) t (next, step, run) =
    let one = longer_from s.next s l next step in
    let rest = longer next lines t run in
    (one.0 ++ rest.0, rest.1 ∙ ap (λ (es : List Entry). es ++ rest.0) one.1 ∙ append_assoc s.entries one.0 rest.0)

-- the same state with another rest
pub with_rest : (s : State) (rest other : List ℕ) (stuck now : Bool) → Known s rest stuck → IsUnread now s other → Known s other now
with_rest s rest other stuck now known unread = record { fits = known.fits; led = known.led; way = known.way; unread = unread }

-- ---- one more line

-- what leads on over the line leads on after it, or led there
over_line : (s : State) (line : List ℕ) (t u : State) (more after : List ℕ) → IsLine line → Step s line t → ((v : State) → Step s line v → v ≡ t) → Leads s (line ++ more) u after → Leads t more u after ⊎ Leads u after t more
over_line s line t u more after is step only lead = at lead.lines lead.each lead.run lead.parts
  where
    at : (lines : List (List ℕ)) → AllByRecursion IsLine lines → Runs s lines u → line ++ more ≡ concat lines ++ after → Leads t more u after ⊎ Leads u after t more
    at [] each run e = inr (record {
      lines = line ∷ [];
      each = (is, tt);
      run = (t, subst (λ (v : State). Step v line t) run step, refl);
      parts = sym e ∙ ap (λ (x : List ℕ). x ++ more) (sym (append-nil line));
    })
    at (l ∷ lines) each run e =
        let same = one_line line l more (concat lines ++ after) is each.0 (e ∙ append_assoc l (concat lines) after) in
        let next : run.0 ≡ t = only run.0 (subst (λ (k : List ℕ). Step s k run.0) (sym same.0) run.1) in
        inl (record { lines = lines; each = each.1; run = subst (λ (v : State). Runs v lines u) next run.2; parts = same.1 })

-- what led to the state leads over the line
pub led_on : (s : State) (line : List ℕ) (t u : State) (more after : List ℕ) → IsLine line → Step s line t → Leads u after s (line ++ more) → Leads u after t more
led_on s line t u more after is step lead = record {
  lines = lead.lines ++ line ∷ [];
  each = each_append lead.lines (line ∷ []) lead.each (is, tt);
  run = runs_append lead.lines (line ∷ []) u s t lead.run (t, step, refl);
  parts = lead.parts ∙ sym (append_assoc (concat lead.lines) line more) ∙ ap (λ (x : List ℕ). x ++ more) (ap (λ (x : List ℕ). concat lead.lines ++ x) (sym (append-nil line)) ∙ sym (concat-append lead.lines (line ∷ [])));
}

-- from the start, too
led_from : (s : State) (line : List ℕ) (t : State) → IsLine line → Step s line t → state_text t ≡ state_text s ++ line → Leads start (state_text s) s [] → Leads start (state_text t) t []
led_from s line t is step text led =
    let moved : Leads start (state_text s ++ line) s (line ++ []) = record {
      lines = led.lines;
      each = led.each;
      run = led.run;
      parts = ap (λ (x : List ℕ). x ++ line) (led.parts ∙ append-nil (concat led.lines)) ∙ ap (λ (x : List ℕ). concat led.lines ++ x) (sym (append-nil line));
    } in
    subst (λ (x : List ℕ). Leads start x t []) (sym text) (led_on s line t start [] (state_text s ++ line) is step moved)

way_on : (s : State) (line : List ℕ) (t : State) → IsOnlyWay s → state_text t ≡ state_text s ++ line → IsLine line → Step s line t → ((v : State) → Step s line v → v ≡ t) → IsOnlyWay t
way_on s line t way text is step only = λ more u after lead.
    let moved : state_text t ++ more ≡ state_text s ++ (line ++ more) = ap (λ (x : List ℕ). x ++ more) text ∙ append_assoc (state_text s) line more in
    elim (way (line ++ more) u after (subst (λ (x : List ℕ). Leads start x u after) moved lead)) [
      | inl on ↦ over_line s line t u more after is step only on
      | inr back ↦ inr (led_on s line t u more after is step back)
    ]

pub line_with : (rest end : List ℕ) → HasNoEnd rest → IsLine end → IsLine (rest ++ end)
line_with rest end h is = record {
  front = rest ++ is.front;
  parts = ap (λ (x : List ℕ). rest ++ x) is.parts ∙ sym (append_assoc rest is.front (10 ∷ []));
  whole = no_end-append rest is.front h is.whole;
}

-- the line belongs there, and nothing is left
pub taken : (s t : State) (rest end line left : List ℕ) → Known s rest false → IsLine end → line ≡ rest ++ end → Step s line t → ((v : State) → Step s line v → v ≡ t) → left ≡ []
    → (state_text t ++ left ≡ (state_text s ++ rest) ++ end) × Known t left false
taken s t rest end line left known last parts step only none =
    let is : IsLine line = subst IsLine (sym parts) (line_with rest end known.unread last) in
    let keeps = step_keeps s line t known.fits step in
    let text : state_text s ++ line ≡ (state_text s ++ rest) ++ end = ap (λ (x : List ℕ). state_text s ++ x) parts ∙ sym (append_assoc (state_text s) rest end) in (
      ap (λ (x : List ℕ). state_text t ++ x) none ∙ append-nil (state_text t) ∙ keeps.0 ∙ text,
      record {
        fits = keeps.1;
        led = led_from s line t is step keeps.0 known.led;
        way = way_on s line t known.way keeps.0 is step only;
        unread = subst HasNoEnd (sym none) tt;
      },
    )

-- the line doesn't, and stays
pub refused : (s t : State) (rest end line left : List ℕ) → Known s rest false → IsLine end → line ≡ rest ++ end → t ≡ s → ((v : State) → Step s line v → ⊥) → left ≡ rest ++ end
    → (state_text t ++ left ≡ (state_text s ++ rest) ++ end) × Known t left true
refused s t rest end line left known last parts same none stays =
    let is : IsLine line = subst IsLine (sym parts) (line_with rest end known.unread last) in
    subst (λ (u : State). (state_text u ++ left ≡ (state_text s ++ rest) ++ end) × Known u left true) (sym same) (
      ap (λ (x : List ℕ). state_text s ++ x) stays ∙ sym (append_assoc (state_text s) rest end),
      with_rest s rest left false true known (record { line = line; more = []; parts = stays ∙ sym parts ∙ sym (append-nil line); whole = is; nowhere = none }),
    )

-- ---- a piece with no whole line

pub more_left : (s : State) (rest piece : List ℕ) (stuck : Bool) → Known s rest stuck → (stuck ≡ false → HasNoEnd piece) → Known s (rest ++ piece) stuck
more_left s rest piece false known whole = with_rest s rest (rest ++ piece) false false known (no_end-append rest piece known.unread (whole refl))
more_left s rest piece true known whole = with_rest s rest (rest ++ piece) true true known (record {
  line = known.unread.line;
  more = known.unread.more ++ piece;
  parts = ap (λ (x : List ℕ). x ++ piece) known.unread.parts ∙ append_assoc known.unread.line known.unread.more piece;
  whole = known.unread.whole;
  nowhere = known.unread.nowhere;
})

-- ---- no more lines

-- nothing leads on from an unread rest
pub ended : (s : State) (rest : List ℕ) (stuck : Bool) (t : State) (after : List ℕ) → IsUnread stuck s rest → Leads s rest t after → (s ≡ t) × (rest ≡ after)
ended s rest stuck t after unread lead = at stuck unread lead.lines lead.each lead.run lead.parts
  where
    at : (b : Bool) → IsUnread b s rest → (lines : List (List ℕ)) → AllByRecursion IsLine lines → Runs s lines t → rest ≡ concat lines ++ after → (s ≡ t) × (rest ≡ after)
    at b h [] each run e = (run, e)
    at false h (l ∷ lines) each run e = absurd (no_line l (concat lines ++ after) rest each.0 h (sym (e ∙ append_assoc l (concat lines) after)))
    at true h (l ∷ lines) each run e =
        let same = one_line h.line l h.more (concat lines ++ after) h.whole each.0 (sym h.parts ∙ e ∙ append_assoc l (concat lines) after) in
        absurd (h.nowhere run.0 (subst (λ (k : List ℕ). Step s k run.0) (sym same.0) run.1))

-- ---- the one report

-- the state after the summary of these contents
abbrev pub over : Contents → State
over c = record { next = nothing_next c.filtered_out c.nanos; announced = length c.entries; entries = c.entries }

pub report_leads : (bytes : List ℕ) (c : Contents) → IsJsonReport bytes c → length c.entries < 2 ^ 64 → Leads start bytes (over c) []
unfolding json_report
report_leads bytes c h few =
    let front = front_run (length c.entries) c.entries few (omega arith) h.entries in
    let last : List ℕ = json_summary (conclusion_of c) c.nanos in
    record {
      lines = report_lines c;
      each = lines_each bytes c h few;
      run = runs_append (json_title (length c.entries) ∷ flat_map entry_lines c.entries) (last ∷ []) start (behind (length c.entries) c.entries) (over c) front
          (over c, inr (omega arith, (c.filtered_out, c.nanos), (h.filtered_out, h.nanos, refl), refl), refl);
      parts = h.text ∙ sym (append-nil (json_report c));
    }

-- nothing leads on after a summary
last_of_all : (c : Contents) (s : State) (rest : List ℕ) → Leads (over c) [] s rest → (s ≡ over c) × (rest ≡ [])
last_of_all c s rest lead = at lead.lines lead.run lead.parts
  where
    at : (lines : List (List ℕ)) → Runs (over c) lines s → [] ≡ concat lines ++ rest → (s ≡ over c) × (rest ≡ [])
    at [] run e = (sym run, sym e)
    at (l ∷ lines) run e = absurd run.1

pub few_were_read : (s : State) (rest : List ℕ) (stuck : Bool) (c : Contents) → Known s rest stuck → length c.entries < 2 ^ 64 → IsJsonReport (state_text s ++ rest) c → (s ≡ over c) × (rest ≡ [])
few_were_read s rest stuck c known few h =
    elim (known.way rest (over c) [] (report_leads (state_text s ++ rest) c h few)) [
      | inl on ↦ ended s rest stuck (over c) [] known.unread on
      | inr back ↦ last_of_all c s rest back
    ]

report_was_read : (s : State) (rest : List ℕ) (stuck : Bool) (c : Contents) → Known s rest stuck → length rest < 2 ^ 64 → IsJsonReport (state_text s ++ rest) c → (s ≡ over c) × (rest ≡ [])
report_was_read s rest stuck c known short h = few_were_read s rest stuck c known (few_rows s rest c known.fits short h) h

-- the text of a reading that is over is the report of what was read
pub report_read : (c : Contents) → Fits (over c) → IsJsonReport (state_text (over c)) c
unfolding json_report
report_read c fits = record {
  text = simp (append_assoc, append-nil, concat-append);
  entries = fits.entries;
  filtered_out = fits.next.1;
  nanos = fits.next.2;
}

-- if something is left, the bytes are no report
pub no_report : (s : State) (rest : List ℕ) (stuck : Bool) → Known s rest stuck → length rest < 2 ^ 64 → rest ≢ [] → Decodes Spells (state_text s ++ rest) None
no_report s rest stuck known short some = λ c h. some (report_was_read s rest stuck c known short h).1

-- if nothing is left, the report is what the lines said
pub the_one_report : (s : State) (rest : List ℕ) (stuck : Bool) (o : Option Totals) → Known s rest stuck → length rest < 2 ^ 64 → rest ≡ [] → HasTotals s o → SumsUp (state_text s ++ rest) s.entries o
the_one_report s rest stuck None known short none out = λ c h.
    out c.filtered_out c.nanos (ap (λ (u : State). u.next) (report_was_read s rest stuck c known short h).0)
the_one_report s rest stuck (Some t) known short none out =
    let c : Contents = report_with s.entries t in
    let all : length s.entries ≡ s.announced = (rw out.0 at known.fits.next).0 in
    let here : s ≡ over c = rw (← out.0, all) refl in
    let whole : state_text s ++ rest ≡ state_text (over c) = ap (λ (r : List ℕ). state_text s ++ r) none ∙ append-nil (state_text s) ∙ ap state_text here in
    let only : (v : Contents) → IsJsonReport (state_text s ++ rest) v → v ≡ c = λ v h.
    let same : over v ≡ over c = sym (report_was_read s rest stuck v known short h).0 ∙ here in
    let next : nothing_next v.filtered_out v.nanos ≡ nothing_next c.filtered_out c.nanos = ap (λ (u : State). u.next) same in
    let x : v.filtered_out ≡ c.filtered_out = cc in
    let n : v.nanos ≡ c.nanos = cc in
    let es : v.entries ≡ c.entries = ap (λ (u : State). u.entries) same in
    rw (← x, ← n, ← es) refl in
    let numbers : t ≡ totals_of c = rw (← out.1, ← out.2) refl in
    ((subst (λ (b : List ℕ). IsJsonReport b c) (sym whole) (report_read c (subst Fits here known.fits)), only), numbers)

-- ---- the rows that have ended

begun : (next : Next) (s : State) (rest : List ℕ) → Fits s → FitsNext next s → (s.entries ≡ []) ⊎ BeginsWith (text_so_far next s ++ rest) s.entries
begun title_next s rest fits at = inl at
begun next s rest fits at = inr (record {
  announced = s.announced;
  rest = behind_rows next s ++ rest;
  number = fits.announced;
  within = omega arith;
  fits = fits.entries;
  parts = with_title next s rest s.announced refl;
})

pub rows_lead : (bytes : List ℕ) (es : List Entry) (h : BeginsWith bytes es) → Leads start bytes (behind h.announced es) h.rest
rows_lead bytes es h = record {
  lines = json_title h.announced ∷ flat_map entry_lines es;
  each = (title_line h.announced h.number, rows_each es h.fits);
  run = front_run h.announced es h.number h.within h.fits;
  parts = h.parts ∙ sym (append_assoc (json_title h.announced) (concat (flat_map entry_lines es)) h.rest);
}

pub rows_ended : (s : State) (rest : List ℕ) (stuck : Bool) → Known s rest stuck → AreEnded (state_text s ++ rest) s.entries
rows_ended s rest stuck known = record {
  begun = begun s.next s rest known.fits known.fits.next;
  longest = λ others h. elim (known.way rest (behind h.announced others) h.rest (rows_lead (state_text s ++ rest) others h)) [
    | inl on ↦ ([], ap (λ (u : State). u.entries) (ended s rest stuck (behind h.announced others) h.rest known.unread on).0 ∙ sym (append-nil others))
    | inr back ↦ longer (behind h.announced others) back.lines s back.run
  ];
}
