-- Printers that differ in columns alone print the same if their format has none.
use Rattle.std.proofs.Common.{◌≡◌, ◌∙◌, ℕ, Bool, List, [], ◌∷◌, ◌++◌, Option, None, Some, Result, Ok, Err, length, refl, ap, ap₂, subst}
use Rattle.std.specs.List.{concat}
use Rattle.std.specs.Prelude.{MatchOption}
use Rattle.libtest_mimic.specs.Prelude.{announcement_in, announcement_text, Conclusion, counts_of, elapsed_of, failures_in, failures_text, FormatSetting, Gives, Label, next_text, Outcome, outcome_in, outcome_line, outcome_mark, outcomes_of, PrintedRow, Printer, PrintsAs, Put, report_text, Reported, Reports, result_summary, row_text, rows_text, RunError, Shown, start_text, StartsReport, Stopped, Suite, summary_in, summary_text, terse_outcome, title_in, title_text, Watched}
use Rattle.mimic_trial.specs.declared.formats.FormatSetting.TheVariants.{Pretty, Terse, Json}
use Rattle.mimic_trial.specs.declared.outcome.Outcome.TheVariants.{Passed, Failed, Ignored, Measured}
use Rattle.libtest_mimic.specs.declared.running.RunError.TheVariants.{OutOfMemory, Write, ZeroThreads, Spawn, Arrival}

-- a printer is its fields
pub Printer-is : (p : Printer) (f : FormatSetting) (c : Bool) (n k : ℕ) → p.format ≡ f → p.colour ≡ c → p.name_width ≡ n → p.kind_width ≡ k
    → p ≡ record { format = f; colour = c; name_width = n; kind_width = k }
Printer-is p f c n k ef ec en ek =
    ap₂ (λ x y. record { format = x; colour = y; name_width = p.name_width; kind_width = p.kind_width }) ef ec
    ∙ ap₂ (λ x y. record { format = f; colour = c; name_width = x; kind_width = y }) en ek

-- ---- texts in one format

announced : (p q : Printer) (f : FormatSetting) (l : Label) → (f ≡ Pretty → p ≡ q) → announcement_in f p l ≡ announcement_in f q l
announced p q Pretty l same = ap (λ (x : Printer). announcement_in Pretty x l) (same refl)
announced p q Terse l same = refl
announced p q Json l same = refl

marked : (p q : Printer) (o : Outcome) (mark : List ℕ) → p.colour ≡ q.colour → outcome_mark p o mark ≡ outcome_mark q o mark
unfolding outcome_mark
marked p q o mark c = rw c refl

lined : (p q : Printer) (o : Outcome) (time : Option ℕ) → p.colour ≡ q.colour → outcome_line p o time ≡ outcome_line q o time
unfolding outcome_line
lined p q o time c = rw c refl

in_terse : (p q : Printer) (o : Outcome) → p.colour ≡ q.colour → terse_outcome p o ≡ terse_outcome q o
in_terse p q Passed c = marked p q Passed _ c
in_terse p q (Failed f) c = marked p q (Failed f) _ c
in_terse p q Ignored c = marked p q Ignored _ c
in_terse p q (Measured m) c = lined p q (Measured m) None c

ended : (p q : Printer) (f : FormatSetting) (l : Label) (o : Outcome) (time : Option ℕ) → p.colour ≡ q.colour → (f ≡ Pretty → p ≡ q) → outcome_in f p l o time ≡ outcome_in f q l o time
ended p q Pretty l o time c same = ap (λ (x : Printer). outcome_in Pretty x l o time) (same refl)
ended p q Terse l o time c same = in_terse p q o c
ended p q Json l o time c same = refl

concluded : (p q : Printer) (c : Conclusion) (nanos : ℕ) → p.colour ≡ q.colour → result_summary p c nanos ≡ result_summary q c nanos
unfolding result_summary
concluded p q c nanos e = rw e refl

summed : (p q : Printer) (f : FormatSetting) (c : Conclusion) (nanos : ℕ) → p.colour ≡ q.colour → summary_in f p c nanos ≡ summary_in f q c nanos
summed p q Pretty c nanos e = concluded p q c nanos e
summed p q Terse c nanos e = concluded p q c nanos e
summed p q Json c nanos e = refl

joined : (a b c d e f g h : List ℕ) → a ≡ e → b ≡ f → c ≡ g → d ≡ h → concat (a ∷ b ∷ c ∷ d ∷ []) ≡ concat (e ∷ f ∷ g ∷ h ∷ [])
joined a b c d e f g h i j k l = rw (i, j, k, l) refl

-- ---- texts of two printers

module _ (p q : Printer) (same : PrintsAs p q) where
  title_same : (n : ℕ) → title_text p n ≡ title_text q n
  title_same n = ap (λ f. title_in f n) same.format

  announcement_same : (l : Label) → announcement_text p l ≡ announcement_text q l
  announcement_same l = announced p q p.format l same.columns ∙ ap (λ f. announcement_in f q l) same.format

  row_same : (row : PrintedRow) → row_text p row ≡ row_text q row
  row_same row =
      ap₂ (λ x y. x ++ y) (announcement_same row.label)
      (ended p q p.format row.label row.outcome row.nanos same.colour same.columns ∙ ap (λ f. outcome_in f q row.label row.outcome row.nanos) same.format)

  rows_same : (rows : List PrintedRow) → rows_text p rows ≡ rows_text q rows
  rows_same [] = refl
  rows_same (row ∷ rows) = ap₂ (λ x y. x ++ y) (row_same row) (rows_same rows)

  failures_same : (rows : List PrintedRow) → failures_text p rows ≡ failures_text q rows
  failures_same rows = ap (λ f. failures_in f rows) same.format

  summary_same : (c : Conclusion) (nanos : ℕ) → summary_text p c nanos ≡ summary_text q c nanos
  summary_same c nanos = summed p q p.format c nanos same.colour ∙ ap (λ f. summary_in f q c nanos) same.format

  report_same : (rows : List PrintedRow) (filtered_out nanos : ℕ) → report_text p rows filtered_out nanos ≡ report_text q rows filtered_out nanos
  unfolding report_text
  report_same rows filtered_out nanos =
      joined _ _ _ _ _ _ _ _ (title_same (length rows)) (rows_same rows) (failures_same rows) (summary_same (counts_of (outcomes_of rows) filtered_out) nanos)

-- ---- suites of two printers

MatchOption-weaker : {A : Type 0} (o : Option A) (P P' : Type 0) (Q Q' : A → Type 0) → (P → P') → ((x : A) → Q x → Q' x) → MatchOption o P Q → MatchOption o P' Q'
MatchOption-weaker None P P' Q Q' none some h = none h
MatchOption-weaker (Some x) P P' Q Q' none some h = some x h

module _ {R : Type 0} (gives : Gives R) (suite : Suite R) (q : Printer) (same : PrintsAs suite.printer q) where
  next_same : (rows : List PrintedRow) (left : List ℕ) → next_text suite rows left ≡ next_text (record suite { printer = q }) rows left
  next_same rows [] = failures_same suite.printer q same rows
  next_same rows (place ∷ left) = announcement_same suite.printer q same _

  start_same : (rows : List PrintedRow) (left : List ℕ) → start_text suite rows left ≡ start_text (record suite { printer = q }) rows left
  start_same rows left =
      ap₂ (λ x y. x ++ y) (title_same suite.printer q same (length suite.trials))
      (ap₂ (λ x y. x ++ y) (rows_same suite.printer q same rows) (next_same rows left))

  -- a whole report
  pub reported_same : (threads : ℕ) (old new : Shown) (watch : Watched) (c : Conclusion) → Reported gives threads suite old new watch c → Reported gives threads (record suite { printer = q }) old new watch c
  reported_same threads old new watch c r = record {
    placed = r.placed;
    ordered = r.ordered;
    none = r.none;
    arranged = r.arranged;
    rows = r.rows;
    timed = r.timed;
    nanos = r.nanos;
    elapsed = r.elapsed;
    fits = r.fits;
    appended = let P : List ℕ → Type 0 = λ t. Put old new t in subst P (report_same suite.printer q same _ suite.filtered_out r.nanos) r.appended;
    counts = r.counts;
  }

  -- a start of a report
  starts_same : (order : List ℕ) (old new : Shown) (watch : Watched) → StartsReport gives suite order old new watch → StartsReport gives (record suite { printer = q }) order old new watch
  starts_same order old new watch s =
      let P : List ℕ → Type 0 = λ t. Stopped old new t in
      record {
        placed = s.placed;
        left = s.left;
        places = s.places;
        own = s.own;
        rows = s.rows;
        timed = s.timed;
        begun = MatchOption-weaker (elapsed_of watch) _ _ _ _
            (λ h. (h.0, subst P (start_same s.rows s.left) h.1))
            (λ nanos h. (
              h.0,
              h.1,
              subst (λ t. Put old h.1 t) (start_same s.rows []) h.2,
              subst (λ t. Stopped h.1 new t) (summary_same suite.printer q same _ nanos) h.3,
            )) s.begun;
      }

  -- a report, or what a refused one leaves
  pub reports_same : (threads : ℕ) (old new : Shown) (watch : Watched) (result : Result Conclusion RunError) → Reports gives threads suite old new watch result
      → Reports gives threads (record suite { printer = q }) old new watch result
  reports_same threads old new watch (Ok c) h = reported_same threads old new watch c h
  reports_same threads old new watch (Err OutOfMemory) h = h
  reports_same threads old new watch (Err (Write fault)) (order, whole, ordered, some, s) = (order, whole, ordered, some, starts_same order old new watch s)
  reports_same threads old new watch (Err ZeroThreads) h = h
  reports_same threads old new watch (Err Spawn) (several, some, title, running) =
      (several, some, subst (λ t. Put old new t) (title_same suite.printer q same (length suite.trials)) title, running)
  reports_same threads old new watch (Err (Arrival place)) h = h
