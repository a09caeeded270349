-- Rows of trials that run one after another.
use Rattle.std.proofs.Common.{All, ◌≡◌, ℕ, zero, suc, ◌+◌, ◌-◌, ◌^◌, ◌<◌, ◌≤◌, List, [], ◌∷◌, ◌++◌, Option, None, Some, Bool, true, false, ◌&&◌, not, filter, length, refl, sym, ap, ap₂, ◌∙◌, subst, arith, add-zero, zero-add, append-nil, length-append, vec_len}
use Rattle.std.proofs.lemmas.List.{length-map, map-append}
use Rattle.std.proofs.lemmas.List.Elements.{All-append, All-cons, All-head, All-nil, All-tail}
use Rattle.std.proofs.lemmas.List.Sums.{count_by-le-length, length-filter}
use Rattle.std.specs.List.{range_with_len}
use Rattle.std.specs.Prelude.{◌↔◌, IsSomeAnd, IsTrue, slice_get}
use Rattle.libtest_mimic.specs.Prelude.{Adds, announcement_text, AreTimed, Arguments, CanCount, counted, counts_of, Gives, has_time, HasCounted, HasRoomFor, info_of, InOrder, is_failed, IsIgnored, IsOutcomeOf, IsOwn, IsOwnAt, IsTime, keeps_fault, Label, label_at, label_of, labels_of, Outcome, outcomes_of, Placed, places_of, PrintedRow, row_of, rows_at, rows_of, rows_text, RowsRun, runner_of, Sink, Suite, Tally, TestInfo, timed_outcome_text, timed_row, Trial}
use Rattle.mimic_trial.proofs.Counting.{can_count, counts-push}
use Rattle.mimic_printer.proofs.Adding.{adds_then}
use Rattle.mimic_printer.proofs.FailedRows.{range-push}
use Rattle.libtest_mimic.proofs.ArrivedRows.{rows_text-push}
use Rattle.libtest_mimic.proofs.Timed.{timed-append}

-- ---- the next element of a list

-- a list with one element more behind the front is longer
pub longer : {A : Type 0} (front rest all : List A) (x : A) → front ++ (x ∷ rest) ≡ all → length all ≡ length front + suc (length rest)
longer front rest all x e = omega (arith, length-append front (x ∷ rest), ap length e)

-- what holds of each element holds of the one behind the front
pub All-next : {A : Type 0} (P : A → Type 0) (front rest all : List A) (x : A) → front ++ (x ∷ rest) ≡ all → All P all → P x
All-next P [] rest all x e holds = All-head P x rest (subst (All P) (sym e) holds)
All-next P (y ∷ front) rest all x e holds = All-next P front rest (front ++ (x ∷ rest)) x refl (All-tail P y (front ++ (x ∷ rest)) (subst (All P) (sym e) holds))

slice_get-seam : {A : Type 0} (front rest : List A) (x : A) → slice_get (front ++ (x ∷ rest)) (length front) ≡ Some x
slice_get-seam [] rest x = refl
slice_get-seam (y ∷ front) rest x = slice_get-seam front rest x

module _ {R : Type 0} where
  label_at-seam : (front rest : List (Trial R)) (t : Trial R) → label_at (labels_of (front ++ (t ∷ rest))) (length front) ≡ label_of (info_of t)
  label_at-seam [] rest t = refl
  label_at-seam (s ∷ front) rest t = label_at-seam front rest t

  -- what a report shows of the next trial
  pub label_at-next : (front rest all : List (Trial R)) (t : Trial R) (n : ℕ) → front ++ (t ∷ rest) ≡ all → n ≡ length front → label_of (info_of t) ≡ label_at (labels_of all) n
  label_at-next front rest all t n e k =
      sym (label_at-seam front rest t) ∙ ap (λ l. label_at (labels_of l) (length front)) e ∙ ap (label_at (labels_of all)) (sym k)

module _ {R : Type 0} (gives : Gives R) (args : Arguments) where
  -- what is own of the next trial is own at its place
  IsOwnAt-next : (front rest all : List (Trial R)) (t : Trial R) (n : ℕ) (o : Outcome) → front ++ (t ∷ rest) ≡ all → n ≡ length front → IsOwn gives args t o → IsOwnAt gives args all (n, o)
  IsOwnAt-next front rest all t n o e k own =
      let here : slice_get all n ≡ Some t = ap₂ (λ (l : List (Trial R)) i. slice_get l i) (sym e) k ∙ slice_get-seam front rest t in
      let P : Option (Trial R) → Type 0 = λ x. IsSomeAnd x (λ u. IsOwn gives args u o) in
      subst P (sym here) own

  -- the next trial of those that are left, taken apart: what a report shows of it, and the outcome that becomes its own
  pub ran-next : (front left rest all : List (Trial R)) (t : Trial R) → left ≡ t ∷ rest → front ++ left ≡ all → (info : TestInfo) (r : R) (b : Bool) (o : Outcome) → info ≡ info_of t → r ≡ runner_of t
      → (IsTrue b ↔ IsIgnored args t) → IsOutcomeOf gives b r (not args.bench) o
      → (label_of info ≡ label_at (labels_of all) (length front)) × IsOwnAt gives args all (length front, o)
  ran-next front left rest all t step seen info r b o same runs says own =
      let e : front ++ (t ∷ rest) ≡ all = ap (λ l. front ++ l) (sym step) ∙ seen in (
        ap label_of same ∙ label_at-next front rest all t (length front) e refl,
        IsOwnAt-next front rest all t (length front) o e refl (b, says, subst (λ x. IsOutcomeOf gives b x (not args.bench) o) runs own),
      )

-- ---- places in order

range-split : (a k m : ℕ) → range_with_len a (k + m) ≡ range_with_len a k ++ range_with_len (a + k) m
range-split a zero m = ap₂ (λ x y. range_with_len x y) (sym (add-zero a)) (zero-add m)
range-split a (suc k) m =
    let more : suc k + m ≡ suc (k + m) = omega arith in
    let next : (a + 1) + k ≡ a + suc k = omega arith in
    ap (range_with_len a) more ∙ ap (λ l. a ∷ l) (range-split (a + 1) k m ∙ ap (λ n. range_with_len (a + 1) k ++ range_with_len n m) next)

-- the places that are left behind the first ones
places-left : (placed : List Placed) (n m : ℕ) → InOrder placed → n ≡ length placed + m → range_with_len 0 n ≡ places_of placed ++ range_with_len (length placed) m
places-left placed n m ordered e =
    ap (range_with_len 0) e ∙ range-split 0 (length placed) m ∙ ap₂ (λ l k. l ++ range_with_len k m) (sym ordered) (zero-add (length placed))

InOrder-push : (placed : List Placed) (o : Outcome) → InOrder placed → InOrder (placed ++ (length placed, o) ∷ [])
InOrder-push placed o ordered =
    map-append (λ (p : Placed). p.0) placed ((length placed, o) ∷ [])
    ∙ ap₂ (λ l k. l ++ k ∷ []) ordered (sym (zero-add (length placed)))
    ∙ sym (range-push 0 (length placed)) ∙ ap (range_with_len 0) (sym (length-append placed ((length placed, o) ∷ [])))

-- as many rows as places
pub count_rows : (labels : List Label) (placed : List Placed) → length (rows_at labels placed) ≡ length placed
count_rows labels placed = length-map placed _

-- ---- one more row

rows_at-push : (labels : List Label) (placed : List Placed) (info : TestInfo) (o : Outcome) → label_of info ≡ label_at labels (length placed)
    → rows_at labels placed ++ row_of info o ∷ [] ≡ rows_at labels (placed ++ (length placed, o) ∷ [])
rows_at-push labels placed info o e =
    ap (λ (l : Label). rows_at labels placed ++ record { label = l; outcome = o; nanos = None } ∷ []) e
    ∙ sym (map-append (λ (p : Placed). record { label = label_at labels p.0; outcome = p.1; nanos = None }) placed ((length placed, o) ∷ []))

-- the same with a time
timed-push : (asked : Bool) (labels : List Label) (placed : List Placed) (info : TestInfo) (o : Outcome) (time : Option ℕ) (rows : List PrintedRow) → label_of info ≡ label_at labels (length placed)
    → AreTimed asked (rows_at labels placed) rows → IsTime (asked && has_time o) time → AreTimed asked (rows_at labels (placed ++ (length placed, o) ∷ [])) (rows ++ timed_row info o time ∷ [])
timed-push asked labels placed info o time rows e timed fits =
    let P : List PrintedRow → Type 0 = λ l. AreTimed asked l (rows ++ timed_row info o time ∷ []) in
    subst P (rows_at-push labels placed info o e)
    (timed-append asked (rows_at labels placed) rows (row_of info o ∷ []) (timed_row info o time ∷ []) timed (record { label = refl; outcome = refl; time = fits }, tt))

-- ---- what a tally has room for

-- the counts of one more row
pub counts-row : (rows : List PrintedRow) (row : PrintedRow) (filtered_out : ℕ) → counts_of (outcomes_of (rows ++ row ∷ [])) filtered_out ≡ counted (counts_of (outcomes_of rows) filtered_out) row.outcome
counts-row rows row n = ap (λ os. counts_of os n) (map-append (λ (r : PrintedRow). r.outcome) rows (row ∷ [])) ∙ counts-push (outcomes_of rows) row.outcome n

length-outcomes : (rows : List PrintedRow) → length (outcomes_of rows) ≡ length rows
length-outcomes rows = length-map rows (λ (row : PrintedRow). row.outcome)

length-failed : (rows : List PrintedRow) → length (filter (λ (row : PrintedRow). is_failed row.outcome) rows) ≤ length rows
length-failed rows =
    let f : PrintedRow → Bool = λ row. is_failed row.outcome in
    omega (arith, length-filter f rows, count_by-le-length f rows)

-- a tally has kept at most as many failures as it has counted rows
length-kept : (t : Tally) (filtered_out : ℕ) (rows : List PrintedRow) → HasCounted t filtered_out rows → vec_len t.failures ≤ length rows
length-kept t filtered_out rows h =
    omega (arith, t.failures.ok.0, length-map t.failures.items (λ p. row_of p.0 p.1), ap length h.failed, length-failed rows)

-- there is room to count one more row
pub can_count-tally : (t : Tally) (filtered_out : ℕ) (rows : List PrintedRow) (o : Outcome) → HasCounted t filtered_out rows → length rows < 2 ^ 64 - 1 → CanCount t.conclusion o
can_count-tally t filtered_out rows o h small =
    subst (λ c. CanCount c o) (sym h.counts) (can_count (outcomes_of rows) filtered_out o (omega (arith, length-outcomes rows)))

-- and to keep it
pub HasRoomFor-tally : (t : Tally) (filtered_out : ℕ) (rows : List PrintedRow) (n : ℕ) → HasCounted t filtered_out rows → HasRoomFor t n → length rows < n → HasRoomFor t (vec_len t.failures + 1)
HasRoomFor-tally t filtered_out rows n h room within = omega (arith, length-kept t filtered_out rows h, room)

-- ---- the rows so far

-- what isn't false
pub is_true : (b : Bool) → ¬ (b ≡ false) → b ≡ true
is_true true h = refl
is_true false h = absurd (h refl)

module _ {R W : Type 0} (gives : Gives R) (contents : W → Option (List ℕ)) where
  -- the rows of `count` trials were added, and the tally has counted them
  pub record RowsSoFar (suite : Suite R) (count : ℕ) (old new : Sink W) (t : Tally) : Type 0 where
    pub placed : List Placed
    pub ordered : InOrder placed
    pub all : length placed ≡ count
    pub own : All (IsOwnAt gives suite.args suite.trials) placed
    pub rows : List PrintedRow
    pub timed : AreTimed suite.args.report_time (rows_of suite placed) rows
    pub text : Adds contents old new (rows_text suite.printer rows)
    pub tally : HasCounted t suite.filtered_out (rows_of suite placed)

  module _ (suite : Suite R) (count : ℕ) {a b : Sink W} (t : Tally) (so_far : RowsSoFar suite count a b t) where
    -- what a report shows of the next trial
    here : (info : TestInfo) → label_of info ≡ label_at (labels_of suite.trials) count → label_of info ≡ label_at (labels_of suite.trials) (length so_far.placed)
    here info label = label ∙ ap (label_at (labels_of suite.trials)) (sym so_far.all)

    -- one more trial ran
    pub RowsSoFar-push : {c d : Sink W} (info : TestInfo) (o : Outcome) (time : Option ℕ)
        → label_of info ≡ label_at (labels_of suite.trials) count → IsOwnAt gives suite.args suite.trials (count, o) → IsTime (suite.args.report_time && has_time o) time → (u : Tally)
        → Adds contents b c (announcement_text suite.printer (label_of info)) → Adds contents c d (timed_outcome_text suite.printer (label_of info) o time)
        → ((filtered_out : ℕ) (rows : List PrintedRow) → HasCounted t filtered_out rows → HasCounted u filtered_out (rows ++ row_of info o ∷ [])) → RowsSoFar suite (count + 1) a d u
    RowsSoFar-push {c} {d} info o time label own fits u announced ended counted =
        let P : ℕ → Type 0 = λ n. IsOwnAt gives suite.args suite.trials (n, o) in
        let Q : Placed → Type 0 = IsOwnAt gives suite.args suite.trials in
        let T : List PrintedRow → Type 0 = λ l. HasCounted u suite.filtered_out l in
        record {
          placed = so_far.placed ++ (length so_far.placed, o) ∷ [];
          ordered = InOrder-push so_far.placed o so_far.ordered;
          all = length-append so_far.placed ((length so_far.placed, o) ∷ []) ∙ ap (λ n. n + 1) so_far.all;
          own = All-append Q so_far.placed ((length so_far.placed, o) ∷ []) so_far.own (All-cons Q (length so_far.placed, o) [] (subst P (sym so_far.all) own) (All-nil Q));
          rows = so_far.rows ++ timed_row info o time ∷ [];
          timed = timed-push suite.args.report_time (labels_of suite.trials) so_far.placed info o time so_far.rows (here info label) so_far.timed fits;
          text = subst (Adds contents a d) (sym (rows_text-push suite.printer so_far.rows (timed_row info o time))) (adds_then _ _ so_far.text (adds_then _ _ announced ended));
          tally = subst T (rows_at-push (labels_of suite.trials) so_far.placed info o (here info label)) (counted suite.filtered_out (rows_of suite so_far.placed) so_far.tally);
        }

    -- a fault is kept, and `m` trials are left behind the next one
    pub stopped_before : {c : Sink W} (info : TestInfo) (m : ℕ) → label_of info ≡ label_at (labels_of suite.trials) count → length suite.trials ≡ count + suc m
        → Adds contents b c (announcement_text suite.printer (label_of info)) → keeps_fault c ≡ true → RowsRun gives contents suite a c t
    stopped_before {c} info m label more announced fault =
        let P : Label → Type 0 = λ l. Adds contents b c (announcement_text suite.printer l) in
        record {
          placed = so_far.placed;
          left = range_with_len (length so_far.placed) (suc m);
          places = places-left so_far.placed (length suite.trials) (suc m) so_far.ordered (omega (arith, more, so_far.all));
          own = so_far.own;
          rows = so_far.rows;
          timed = so_far.timed;
          text = adds_then _ _ so_far.text (subst P (here info label) announced);
          tally = so_far.tally;
          all = λ none. absurd (cc (fault, none));
        }

    -- all trials ran
    pub all_ran : count ≡ length suite.trials → RowsRun gives contents suite a b t
    all_ran whole = record {
      placed = so_far.placed;
      left = [];
      places = ap (range_with_len 0) (sym (so_far.all ∙ whole)) ∙ sym so_far.ordered ∙ sym (append-nil (places_of so_far.placed));
      own = so_far.own;
      rows = so_far.rows;
      timed = so_far.timed;
      text = subst (Adds contents a b) (sym (append-nil (rows_text suite.printer so_far.rows))) so_far.text;
      tally = so_far.tally;
      all = λ none. refl;
    }
