-- Rows that workers reported, in the order in which they came, and rows by place.
use Rattle.std.proofs.Common.{◌≡◌, ◌∙◌, ℕ, suc, zero, ◌-◌, ◌<◌, ◌≤◌, drop, nat_lt, not, ◌&&◌, Bool, true, false, Option, cond, List, [], ◌∷◌, ◌++◌, None, Some, length, map, refl, sym, ap, subst, append-nil, take, ◌+◌, arith, slice_index_or}
use Rattle.std.specs.Prelude.{All, slice_get}
use Rattle.std.proofs.lemmas.Bool.Decides.{nat_tests}
use Rattle.std.proofs.lemmas.List.{length-map, map-append, take_more}
use Rattle.std.proofs.lemmas.List.Concat.{flat_map-append}
use Rattle.libtest_mimic.specs.Prelude.{Adds, AddsRows, AreArrived, AreTimed, arrival_of, Arrived, has_come, has_time, IsTime, IsTimed, Label, label_at, label_of, Outcome, Placed, places_of, PrintedRow, Printer, row_of, row_text, rows_after, rows_at, rows_text, Sink, TestInfo, timed_row}
use Rattle.std.proofs.lemmas.List.Elements.{All-head, All-tail}
use Rattle.mimic_pool.specs.declared.desk.Arrival.TheVariants.{First, Again, Stranger}
use Rattle.mimic_printer.proofs.Adding.{adds_then}
use Rattle.libtest_mimic.proofs.Timed.{timed-append}

-- ---- a first arrival

first_cases : (low has : Bool) → First ≡ cond low (cond has Again First) Stranger → (low ≡ true) × (has ≡ false)
first_cases true true e = absurd (cc)
first_cases true false e = (refl, refl)
first_cases false has e = absurd (cc)

-- a first arrival is at a place at which nothing came, and is the last row then
pub first_row : (d : Arrived) (p : ℕ) (o : Outcome) → First ≡ arrival_of d p
    → (p < d.places) × (has_come p d.rows ≡ false) × (rows_after d.places d.rows (p, o) ≡ d.rows ++ (p, o) ∷ [])
first_row d p o e =
    let h = first_cases (nat_lt p d.places) (has_come p d.rows) e in
    let low : nat_lt p d.places ≡ true = h.0 in (
      grind (arith, nat_tests),
      h.1,
      ap (λ b. cond (b && not (has_come p d.rows)) (d.rows ++ (p, o) ∷ []) d.rows) h.0 ∙ ap (λ b. cond (true && not b) (d.rows ++ (p, o) ∷ []) d.rows) h.1,
    )

-- ---- texts of rows at places

-- what a report shows of an info, by place
pub label_at-info : (infos : List TestInfo) (place : ℕ) (info : TestInfo) → place < length infos → info ≡ slice_index_or infos place info → label_at (map label_of infos) place ≡ label_of info
label_at-info [] place info low e = absurd (omega arith)
label_at-info (i ∷ infos) zero info low e = ap label_of (sym e)
label_at-info (i ∷ infos) (suc place) info low e = label_at-info infos place info (omega arith) e

-- rows at places that were joined, with times
pub timed_joined : (asked : Bool) (labels : List Label) (xs ys : List Placed) (us vs : List PrintedRow) → AreTimed asked (rows_at labels xs) us → AreTimed asked (rows_at labels ys) vs → AreTimed asked (rows_at labels (xs ++ ys)) (us ++ vs)
timed_joined asked labels xs ys us vs before behind =
    let P : List PrintedRow → Type 0 = λ l. AreTimed asked l (us ++ vs) in
    subst P (sym (map-append (λ (q : Placed). record { label = label_at labels q.0; outcome = q.1; nanos = None }) xs ys)) (timed-append asked (rows_at labels xs) us (rows_at labels ys) vs before behind)

-- one more row
pub rows_text-push : (p : Printer) (rows : List PrintedRow) (row : PrintedRow) → rows_text p (rows ++ row ∷ []) ≡ rows_text p rows ++ row_text p row
rows_text-push p rows row =
    flat_map-append (row_text p) rows (row ∷ []) ∙ ap (λ l. rows_text p rows ++ l) (append-nil (row_text p row))

pub rows_text-append : (p : Printer) (us vs : List PrintedRow) → rows_text p (us ++ vs) ≡ rows_text p us ++ rows_text p vs
rows_text-append p us vs = flat_map-append (row_text p) us vs

-- the time that is shown of an outcome is one of it
pub shown_time : (asked there : Bool) (shown o : Outcome) (time : Option ℕ) → there ≡ asked → shown ≡ o → IsTime (there && has_time shown) time → IsTime (asked && has_time o) time
shown_time asked there shown o time e same fits =
    subst (λ (b : Bool). IsTime (b && has_time o) time) e (subst (λ (x : Outcome). IsTime (there && has_time x) time) same fits)

-- one more row that was reported
pub arrived_more : {W : Type 0} {contents : W → Option (List ℕ)} (asked : Bool) (p : Printer) (infos : List TestInfo) (old new : Arrived) (place : ℕ) (o : Outcome) (info : TestInfo) (time : Option ℕ)
    → new.rows ≡ old.rows ++ (place, o) ∷ [] → label_at (map label_of infos) place ≡ label_of info → IsTime (asked && has_time o) time
    → {a b c : Sink W} → AddsRows contents p (AreArrived asked infos old) a b → Adds contents b c (row_text p (timed_row info o time)) → AddsRows contents p (AreArrived asked infos new) a c
arrived_more {W} {contents} asked p infos old new place o info time rows label fits {a} {b} {c} (before, timed, put) adds =
    let labels = map label_of infos in
    let row : PrintedRow = timed_row info o time in
    let P : List Placed → Type 0 = λ l. AreTimed asked (rows_at labels l) (before ++ row ∷ []) in (
      before ++ row ∷ [],
      subst P (sym rows) (timed_joined asked labels old.rows ((place, o) ∷ []) before (row ∷ []) timed (record { label = sym label; outcome = refl; time = fits }, tt)),
      subst (Adds contents a c) (sym (rows_text-push p before row)) (adds_then (rows_text p before) (row_text p row) put adds),
    )

pub slice_get-at : (os : List Outcome) (p : ℕ) (o : Outcome) → p < length os → o ≡ slice_index_or os p o → slice_get os p ≡ Some o
slice_get-at [] p o low e = absurd (omega arith)
slice_get-at (x ∷ os) zero o low e = ap (λ y. Some y) (sym e)
slice_get-at (x ∷ os) (suc p) o low e = slice_get-at os p o (omega arith) e

-- ---- a row by its number

same_row : (a b : Placed) → Some a ≡ Some b → a ≡ b
same_row a b e = cc

got : (rows : List PrintedRow) (k : ℕ) (row d : PrintedRow) → slice_get rows k ≡ Some row → row ≡ slice_index_or rows k d
got [] k row d e = absurd (cc)
got (r ∷ rows) zero row d e = let same : Some row ≡ Some r = sym e in cc
got (r ∷ rows) (suc k) row d e = got rows k row d e

got_from : (first k : ℕ) (rows : List PrintedRow) (row d : PrintedRow) → first ≤ k → slice_get rows k ≡ Some row → row ≡ slice_index_or (drop first rows) (k - first) d
got_from zero k rows row d from e = let same : k ≡ k - 0 = omega arith in got rows k row d e ∙ ap (λ n. slice_index_or rows n d) same
got_from (suc first) k [] row d from e = absurd (cc)
got_from (suc first) zero (r ∷ rows) row d from e = absurd (omega arith)
got_from (suc first) (suc k) (r ∷ rows) row d from e =
    let same : k - first ≡ suc k - suc first = omega arith in got_from first k rows row d (omega arith) e ∙ ap (λ n. slice_index_or (drop first rows) n d) same

-- what is printed of it
abbrev printed : List Label → Placed → PrintedRow
printed labels row = record { label = label_at labels row.0; outcome = row.1; nanos = None }

row_printed : (labels : List Label) (rows : List Placed) (k : ℕ) (row : Placed) → slice_get rows k ≡ Some row → slice_get (rows_at labels rows) k ≡ Some (printed labels row)
row_printed labels [] k row e = absurd (cc)
row_printed labels (r ∷ rows) zero row e = ap (λ (x : Placed). Some (printed labels x)) (same_row r row e)
row_printed labels (r ∷ rows) (suc k) row e = row_printed labels rows k row e

pub count_rows_at : (labels : List Label) (rows : List Placed) → length (rows_at labels rows) ≡ length rows
count_rows_at labels rows = length-map rows (printed labels)

-- its place is below what all places are below
pub place_below : (n : ℕ) (rows : List Placed) (k : ℕ) (row : Placed) → All (λ p. p < n) (places_of rows) → slice_get rows k ≡ Some row → row.0 < n
place_below n [] k row all e = absurd (cc)
place_below n (r ∷ rows) zero row all e = let same = ap (λ (x : Placed). x.0) (same_row r row e) in let low = All-head (λ p. p < n) r.0 (places_of rows) all in omega arith
place_below n (r ∷ rows) (suc k) row all e = place_below n rows k row (All-tail (λ p. p < n) r.0 (places_of rows) all) e

-- its outcome is the one of its number
pub outcome_of_row : (rows : List Placed) (k : ℕ) (row : Placed) → slice_get rows k ≡ Some row → row.1 ≡ slice_index_or (map (λ (r : Placed). r.1) rows) k row.1
outcome_of_row [] k row e = absurd (cc)
outcome_of_row (r ∷ rows) zero row e = ap (λ (x : Placed). x.1) (sym (same_row r row e))
outcome_of_row (r ∷ rows) (suc k) row e = outcome_of_row rows k row e

module _ (infos : List TestInfo) (rows : List Placed) (number place : ℕ) (o : Outcome) (info : TestInfo) (at : slice_get rows number ≡ Some (place, o)) (low : place < length infos)
    (is : info ≡ slice_index_or infos place info) where
  -- it is printed by the info of its place
  pub row_by_info : slice_get (rows_at (map label_of infos) rows) number ≡ Some (row_of info o)
  row_by_info =
      row_printed (map label_of infos) rows number (place, o) at
      ∙ ap (λ (l : Label). Some (record { label = l; outcome = o; nanos = None })) (label_at-info infos place info low is)

  -- also among the rows from one on
  pub row_from : (first : ℕ) (d : PrintedRow) → first ≤ number → row_of info o ≡ slice_index_or (drop first (rows_at (map label_of infos) rows)) (number - first) d
  row_from first d from = got_from first number (rows_at (map label_of infos) rows) (row_of info o) d from row_by_info

-- ---- rows that are written one after another

-- with the next one they are one more
pub next_added : {W : Type 0} {contents : W → Option (List ℕ)} {a b c : Sink W} (asked : Bool) (p : Printer) (xs : List PrintedRow) (i : ℕ) (d row : PrintedRow) → i < length xs → IsTimed asked (slice_index_or xs i d) row
    → AddsRows contents p (AreTimed asked (take i xs)) a b → Adds contents b c (row_text p row) → AddsRows contents p (AreTimed asked (take (i + 1) xs)) a c
next_added {W} {contents} {a} {b} {c} asked p xs i d row low is (rows, timed, text) adds =
    let P : List PrintedRow → Type 0 = λ l. AreTimed asked l (rows ++ row ∷ []) in (
      rows ++ row ∷ [],
      subst P (sym (take_more xs i d low)) (timed-append asked (take i xs) rows (slice_index_or xs i d ∷ []) (row ∷ []) timed (is, tt)),
      subst (Adds contents a c) (sym (rows_text-push p rows row)) (adds_then (rows_text p rows) (row_text p row) text adds),
    )
