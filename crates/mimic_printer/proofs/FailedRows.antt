-- The failures of a report: by place, and of the rows that failed alone.
use Rattle.std.proofs.Common.{◌≡◌, ℕ, zero, suc, ◌+◌, ◌<◌, List, [], ◌∷◌, ◌++◌, Bool, true, false, cond, ◌||◌, None, Some, filter, map, length, get_or, slice_get, refl, sym, ap, ap₂, ◌∙◌, arith, add-one, append-nil, All}
use Rattle.std.proofs.lemmas.List.{get_or-map, get_or_default}
use Rattle.std.proofs.lemmas.List.Elements.{All-head, All-tail, filter-append}
use Rattle.std.proofs.lemmas.Option.{slice_get_read}
use Rattle.std.specs.List.{flat_map, list_any, range_with_len}
use Rattle.mimic_trial.specs.declared.formats.FormatSetting.{FormatSetting}
use Rattle.mimic_trial.specs.declared.formats.FormatSetting.TheVariants.{Pretty, Terse, Json}
use Rattle.mimic_trial.specs.declared.outcome.Outcome.{Outcome}
use Rattle.mimic_trial.specs.declared.outcome.Outcome.TheVariants.{Passed, Failed, Ignored, Measured}
use Rattle.mimic_printer.specs.declared.Printer.{Printer}
use Rattle.mimic_trial.specs.declared.trial.TestInfo.{TestInfo}
use Rattle.mimic_trial.specs.Places.{placed_at, placed_if}
use Rattle.mimic_printer.specs.Row.{rows_at, Label, PrintedRow, label_of, row_of, outcomes_of}
use Rattle.mimic_trial.specs.Count.{is_failed}
use Rattle.mimic_printer.specs.Report.{failure_text, failed_name, row_failure, row_failed_name, failures_of, failures_if_any, failures_in, failures_text}

-- ---- by place

-- the first of the places, with the outcome there
placed-cons : (os : List Outcome) (p : ℕ) (ps : List ℕ) (o : Outcome) → p < length os → o ≡ get_or os p o → placed_at (p ∷ ps) os ≡ (p, o) ∷ placed_at ps os
placed-cons os p ps o i e = ap (λ x. placed_if p x ++ placed_at ps os) (slice_get_read os (length os) p o refl i e)

-- each place has its row
pub length-rows_at : (infos : List TestInfo) (order : List ℕ) (os : List Outcome) → length infos ≡ length os → All (λ p. p < length infos) order
    → length (rows_at (map label_of infos) (placed_at order os)) ≡ length order
length-rows_at infos [] os n all = refl
length-rows_at infos (p ∷ ps) os n all =
    let i : p < length infos = All-head (λ q. q < length infos) p ps all in
    let j : p < length os = omega arith in
    let next = length-rows_at infos ps os n (All-tail (λ q. q < length infos) p ps all) in
    ap (λ l. length (rows_at (map label_of infos) l)) (placed-cons os p ps (get_or os p Passed) j (sym (get_or_default os p (get_or os p Passed) Passed j))) ∙ ap (λ m. suc m) next

-- the row of a number is that of the info and the outcome at the place
pub row_is_at : (infos : List TestInfo) (order : List ℕ) (os : List Outcome) (k : ℕ) (t : TestInfo) (o : Outcome) → length infos ≡ length os → All (λ p. p < length infos) order → k < length order
    → slice_get (rows_at (map label_of infos) (placed_at order os)) k ≡ Some (row_of (get_or infos (get_or order k 0) t) (get_or os (get_or order k 0) o))
row_is_at infos [] os k t o n all i = absurd (omega arith)
row_is_at infos (p ∷ ps) os zero t o n all i =
    let w : p < length infos = All-head (λ q. q < length infos) p ps all in
    let j : p < length os = omega arith in
    let outcome = get_or os p o in
    ap (λ l. slice_get (rows_at (map label_of infos) l) 0) (placed-cons os p ps outcome j (sym (get_or_default os p outcome o j)))
    ∙ ap (λ l. Some (record { label = l; outcome = outcome; nanos = None })) (get_or-map label_of infos p t _ w)
row_is_at infos (p ∷ ps) os (suc k) t o n all i =
    let w : p < length infos = All-head (λ q. q < length infos) p ps all in
    let j : p < length os = omega arith in
    let outcome = get_or os p o in
    ap (λ l. slice_get (rows_at (map label_of infos) l) (suc k)) (placed-cons os p ps outcome j (sym (get_or_default os p outcome o j)))
    ∙ row_is_at infos ps os k t o n (All-tail (λ q. q < length infos) p ps all) (omega arith)

or-true : (b : Bool) → (b || true) ≡ true
or-true true = refl
or-true false = refl

-- if the row of a number failed, one of the rows did
pub any-failed_row : (rows : List PrintedRow) (k : ℕ) (row : PrintedRow) → slice_get rows k ≡ Some row → is_failed row.outcome ≡ true → list_any is_failed (outcomes_of rows) ≡ true
any-failed_row [] k row e h = cc
any-failed_row (r ∷ rows) zero row e h =
    let first : r ≡ row = cc in
    ap (λ x. is_failed x.outcome || list_any is_failed (outcomes_of rows)) first ∙ ap (λ b. b || list_any is_failed (outcomes_of rows)) h
any-failed_row (r ∷ rows) (suc k) row e h = ap (λ b. is_failed r.outcome || b) (any-failed_row rows k row e h) ∙ or-true (is_failed r.outcome)

pub failures-some : (rows : List PrintedRow) → list_any is_failed (outcomes_of rows) ≡ true → failures_if_any rows ≡ failures_of rows
unfolding failures_if_any
failures-some rows h = rw h

pub failures-none : (rows : List PrintedRow) → list_any is_failed (outcomes_of rows) ≡ false → failures_if_any rows ≡ []
unfolding failures_if_any
failures-none rows h = rw h

-- ---- of the rows that failed alone

abbrev is_failed_row : PrintedRow → Bool
is_failed_row row = is_failed row.outcome

failure_text-none : (l : Label) (o : Outcome) → is_failed o ≡ false → failure_text l o ≡ []
failure_text-none l Passed h = refl
failure_text-none l (Failed f) h = cc
failure_text-none l Ignored h = refl
failure_text-none l (Measured m) h = refl

failed_name-none : (l : Label) (o : Outcome) → is_failed o ≡ false → failed_name l o ≡ []
failed_name-none l Passed h = refl
failed_name-none l (Failed f) h = cc
failed_name-none l Ignored h = refl
failed_name-none l (Measured m) h = refl

any_step : (row : PrintedRow) (rows : List PrintedRow) (b : Bool) → is_failed_row row ≡ b → list_any is_failed (outcomes_of (cond b (row ∷ rows) rows)) ≡ is_failed_row row || list_any is_failed (outcomes_of rows)
any_step row rows true h = refl
any_step row rows false h = ap (λ c. c || list_any is_failed (outcomes_of rows)) (sym h)

any-failed : (rows : List PrintedRow) → list_any is_failed (outcomes_of (filter is_failed_row rows)) ≡ list_any is_failed (outcomes_of rows)
any-failed [] = refl
any-failed (row ∷ rows) = any_step row (filter is_failed_row rows) (is_failed_row row) refl ∙ ap (λ b. is_failed_row row || b) (any-failed rows)

text_step : (f : PrintedRow → List ℕ) → ((row : PrintedRow) → is_failed_row row ≡ false → f row ≡ []) → (row : PrintedRow) (rows : List PrintedRow) (b : Bool) → is_failed_row row ≡ b
    → flat_map f (cond b (row ∷ rows) rows) ≡ f row ++ flat_map f rows
text_step f none row rows true h = refl
text_step f none row rows false h = ap (λ t. t ++ flat_map f rows) (sym (none row h))

text-failed : (f : PrintedRow → List ℕ) → ((row : PrintedRow) → is_failed_row row ≡ false → f row ≡ []) → (rows : List PrintedRow) → flat_map f (filter is_failed_row rows) ≡ flat_map f rows
text-failed f none [] = refl
text-failed f none (row ∷ rows) = text_step f none row (filter is_failed_row rows) (is_failed_row row) refl ∙ ap (λ t. f row ++ t) (text-failed f none rows)

failures-failed : (rows : List PrintedRow) → failures_if_any (filter is_failed_row rows) ≡ failures_if_any rows
unfolding failures_if_any
failures-failed rows =
    let any = any-failed rows in
    let messages = text-failed row_failure (λ row. failure_text-none row.label row.outcome) rows in
    let names = text-failed row_failed_name (λ row. failed_name-none row.label row.outcome) rows in
    rw (any, messages, names)

failures_in-failed : (f : FormatSetting) (rows : List PrintedRow) → failures_in f (filter is_failed_row rows) ≡ failures_in f rows
failures_in-failed Pretty rows = failures-failed rows
failures_in-failed Terse rows = failures-failed rows
failures_in-failed Json rows = refl

-- the failures of all rows are those of the rows that failed
pub failures_text-failed : (p : Printer) (rows : List PrintedRow) → failures_text p (filter is_failed_row rows) ≡ failures_text p rows
failures_text-failed p rows = failures_in-failed p.format rows

-- ---- the rows that a tally kept

-- one more place
pub range-push : (a n : ℕ) → range_with_len a (n + 1) ≡ range_with_len a n ++ (a + n) ∷ []
range-push a zero = ap (λ m. m ∷ []) (omega arith)
range-push a (suc n) =
    ap (range_with_len a) (add-one (suc n))
    ∙ ap (λ l. a ∷ l) (ap (range_with_len (a + 1)) (sym (add-one n)) ∙ range-push (a + 1) n ∙ ap (λ m. range_with_len (a + 1) n ++ m ∷ []) (omega arith))

pub range-shift : (a n : ℕ) → range_with_len (a + 1) n ≡ map (λ m. suc m) (range_with_len a n)
range-shift a zero = refl
range-shift a (suc n) = ap₂ (λ x xs. x ∷ xs) (add-one a) (range-shift (a + 1) n)

-- one more row, of those that failed
pub failed-push : (rows : List PrintedRow) (row : PrintedRow) → is_failed_row row ≡ true → filter is_failed_row (rows ++ row ∷ []) ≡ filter is_failed_row rows ++ row ∷ []
failed-push rows row h = filter-append is_failed_row rows (row ∷ []) ∙ ap (λ b. filter is_failed_row rows ++ cond b (row ∷ []) []) h

pub failed-skip : (rows : List PrintedRow) (row : PrintedRow) → is_failed_row row ≡ false → filter is_failed_row (rows ++ row ∷ []) ≡ filter is_failed_row rows
failed-skip rows row h = filter-append is_failed_row rows (row ∷ []) ∙ ap (λ b. filter is_failed_row rows ++ cond b (row ∷ []) []) h ∙ append-nil (filter is_failed_row rows)
