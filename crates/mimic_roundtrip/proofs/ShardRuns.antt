-- What a run writes, in whatever order, is a report of the trials that it was given.
use Rattle.std.proofs.Common.{All, ◌≡◌, ◌&&◌, ℕ, ◌+◌, ◌%◌, cond, eqb, true, false, Bool, List, [], ◌∷◌, ◌++◌, None, Some, get_or, map, length, length-append, refl, set, sym, ap, ap₂, subst, ◌∙◌, arith, append_assoc}
use Rattle.std.specs.Prelude.{IsPermutation, IsSomeAnd, slice_get, swap}
use Rattle.std.specs.List.{AllZip, range_with_len}
use Rattle.std.proofs.Math.ListN.{get_or-map}
use Rattle.std.proofs.lemmas.List.{length-map, map-set}
use Rattle.std.proofs.lemmas.List.Elements.{All-cons, All-head, All-nil, All-tail}
use Rattle.std.proofs.lemmas.List.Sorted.{All-permutation, IsPermutation-keeps, IsPermutation-map, IsPermutation-refl, IsPermutation-swap, IsPermutation-trans}
use Rattle.libtest_mimic.specs.Arrangement.{IsOwn, IsOwnAt}
use Rattle.mimic_args.specs.declared.Arguments.{Arguments}
use Rattle.mimic_trial.specs.declared.outcome.Outcome.{Outcome}
use Rattle.mimic_trial.specs.declared.trial.Trial.{Trial}
use Rattle.mimic_trial.specs.Places.{Placed, places_of}
use Rattle.mimic_trial.specs.Promise.{Gives}
use Rattle.mimic_trial.specs.Trial.{info_of}
use Rattle.mimic_printer.specs.Row.{Label, PrintedRow, label_at, label_of, labels_of, rows_at}
use Rattle.libtest_mimic.specs.Suite.{AreTimed, IsTime, IsTimed, has_time}
use Rattle.mimic_trial.specs.Shard.{shard_from, shard_of}
use Rattle.std.specs.Prelude.{Err, IfOk, Ok, Result}
use Rattle.libtest_mimic.specs.Stopwatch.{Watched}
use Rattle.libtest_mimic.specs.declared.running.RunError.{RunError}
use Rattle.mimic_trial.specs.declared.outcome.Conclusion.{Conclusion}
use Rattle.mimic_events.specs.Contents.{contents_read}
use Rattle.mimic_events.specs.declared.report.Report.{Report}
use Rattle.mimic_roundtrip.specs.Run.{ReportsRun}
use Rattle.mimic_roundtrip.specs.Joined.{IsEntryOf, RunsReport, ReportsTrials}

-- ---- a permutation of places is one of what is at them

module _ {A B : Type 0} (f : A → B) where
  swap-map : (xs : List A) (i j : ℕ) → map f (swap xs i j) ≡ swap (map f xs) i j
  swap-map [] i j = refl
  swap-map (d ∷ ys) i j =
      map-set f (set (d ∷ ys) i (get_or (d ∷ ys) j d)) j (get_or (d ∷ ys) i d)
      ∙ (ap (λ l. set l j (f (get_or (d ∷ ys) i d))) (map-set f (d ∷ ys) i (get_or (d ∷ ys) j d))
      ∙ ap₂ (λ x y. set (set (map f (d ∷ ys)) i x) j y) (sym (get_or-map f (d ∷ ys) j d)) (sym (get_or-map f (d ∷ ys) i d)))

  lifted : (ps : List A) (qs : List B) → IsPermutation (map f ps) qs → (rs : List A) × IsPermutation ps rs × (map f rs ≡ qs)
  lifted ps qs h =
      let P : List B → Type 0 = λ l. (rs : List A) × IsPermutation ps rs × (map f rs ≡ l) in
      IsPermutation-keeps (map f ps) P (ps, IsPermutation-refl ps, refl) (λ l i j low high k.
      let n : length (map f k.0) ≡ length k.0 = length-map k.0 f in
      let m : length (map f k.0) ≡ length l = ap length k.2 in
      (swap k.0 i j, IsPermutation-trans _ _ _ k.1 (IsPermutation-swap k.0 (swap k.0 i j) i j (omega (arith, n, m, low)) (omega (arith, n, m, high)) refl), swap-map k.0 i j ∙ ap (λ x. swap x i j) k.2)) qs h

-- ---- rows in the order of the trials

slice_get-seam : {A : Type 0} (front rest : List A) (x : A) → slice_get (front ++ (x ∷ rest)) (length front) ≡ Some x
slice_get-seam [] rest x = refl
slice_get-seam (y ∷ front) rest x = slice_get-seam front rest x

-- a row that was printed of an outcome at a place
abbrev Printed : Type 0
Printed = Placed × PrintedRow

abbrev places_printed : List Printed → List ℕ
places_printed printed = map (λ p. p.0.0) printed

module _ {R : Type 0} (gives : Gives R) (args : Arguments) where
  label_at-seam : (front rest : List (Trial R)) (t : Trial R) → label_at (labels_of (front ++ (t ∷ rest))) (length front) ≡ label_of (info_of t)
  label_at-seam [] rest t = refl
  label_at-seam (s ∷ front) rest t = label_at-seam front rest t

  own-seam : (front rest : List (Trial R)) (t : Trial R) (o : Outcome) → IsOwnAt gives args (front ++ (t ∷ rest)) (length front, o) → IsOwn gives args t o
  own-seam front rest t o own = subst (λ s. IsSomeAnd s (λ x. IsOwn gives args x o)) (slice_get-seam front rest t) own

  -- which is own there
  abbrev IsPrinted : List (Trial R) → Printed → Type 0
  IsPrinted all p = IsOwnAt gives args all p.0 × IsTimed args.report_time (record { label = label_at (labels_of all) p.0.0; outcome = p.0.1; nanos = None }) p.1

  -- rows and what they are printed of, in pairs
  paired : (all : List (Trial R)) (placed : List Placed) (rows : List PrintedRow) → All (IsOwnAt gives args all) placed → AreTimed args.report_time (rows_at (labels_of all) placed) rows
      → (printed : List Printed) × All (IsPrinted all) printed × (places_printed printed ≡ places_of placed) × (map (λ p. p.1) printed ≡ rows)
  paired all [] [] own timed = ([], All-nil (IsPrinted all), refl, refl)
  paired all [] (row ∷ rows) own timed = absurd timed
  paired all (q ∷ placed) [] own timed = absurd timed
  paired all (q ∷ placed) (row ∷ rows) own timed =
      let rest = paired all placed rows (All-tail (IsOwnAt gives args all) q placed own) timed.1 in (
        (q, row) ∷ rest.0,
        All-cons (IsPrinted all) (q, row) rest.0 (All-head (IsOwnAt gives args all) q placed own, timed.0) rest.1,
        ap (λ l. q.0 ∷ l) rest.2,
        ap (λ l. row ∷ l) rest.3,
      )

  entry_of : (t : Trial R) (o : Outcome) (label : Label) (row : PrintedRow) → label ≡ label_of (info_of t) → IsOwn gives args t o → IsTimed args.report_time (record { label = label; outcome = o; nanos = None }) row → IsEntryOf gives args t row
  entry_of t o label row e own timed = (
    timed.label ∙ e,
    subst (IsOwn gives args t) (sym timed.outcome) own,
    subst (λ (x : Outcome). IsTime (args.report_time && has_time x) row.nanos) (sym timed.outcome) timed.time,
  )

  rows_in_order : (front rest all : List (Trial R)) (printed : List Printed) → front ++ rest ≡ all → places_printed printed ≡ range_with_len (length front) (length rest) → All (IsPrinted all) printed
      → AllZip (IsEntryOf gives args) rest (map (λ p. p.1) printed)
  rows_in_order front [] all [] e p are = tt
  rows_in_order front [] all (q ∷ printed) e p are = absurd (cc)
  rows_in_order front (t ∷ rest) all [] e p are = absurd (cc)
  rows_in_order front (t ∷ rest) all (((n, o), row) ∷ printed) e p are =
      let at : length front ≡ n = cc in
      let more : places_printed printed ≡ range_with_len (length front + 1) (length rest) = cc in
      let first : IsPrinted all ((n, o), row) = All-head (IsPrinted all) ((n, o), row) printed are in
      let label : label_at (labels_of all) n ≡ label_of (info_of t) = subst (λ l. label_at (labels_of l) n ≡ label_of (info_of t)) e (subst (λ k. label_at (labels_of (front ++ (t ∷ rest))) k ≡ label_of (info_of t)) at (label_at-seam front rest t)) in
      let here : IsOwnAt gives args (front ++ (t ∷ rest)) (length front, o) =
      subst (λ l. IsOwnAt gives args l (length front, o)) (sym e) (subst (λ k. IsOwnAt gives args all (k, o)) (sym at) first.0) in
      let next : length (front ++ t ∷ []) ≡ length front + 1 = length-append front (t ∷ []) in (
        entry_of t o _ row label (own-seam front rest t o here) first.1,
        rows_in_order (front ++ t ∷ []) rest all printed (append_assoc front (t ∷ []) rest ∙ e) (more ∙ ap (λ k. range_with_len k (length rest)) (sym next)) (All-tail (IsPrinted all) ((n, o), row) printed are),
      )

pub runs_report : {R : Type 0} (gives : Gives R) → RunsReport gives
runs_report gives args trials selected placed report selection arranged rows filtered_out =
    let printed = paired gives args selected placed report.entries arranged.own rows in
    let places : IsPermutation (places_printed printed.0) (range_with_len 0 (length selected)) = subst (λ l. IsPermutation l (range_with_len 0 (length selected))) (sym printed.2) arranged.places in
    let sorted = lifted (λ (p : Printed). p.0.0) printed.0 (range_with_len 0 (length selected)) places in
    let are : All (IsPrinted gives args selected) sorted.0 = All-permutation (IsPrinted gives args selected) printed.0 sorted.0 sorted.1 printed.1 in
    let row_of_pair : Printed → PrintedRow = λ p. p.1 in
    record {
      selected = selected;
      selection = selection;
      entries = map row_of_pair sorted.0;
      own = rows_in_order gives args [] selected selected sorted.0 refl sorted.2 are;
      order = subst (λ l. IsPermutation l (map row_of_pair sorted.0)) printed.3 (IsPermutation-map row_of_pair printed.0 sorted.0 sorted.1);
      filtered_out = filtered_out;
    }

-- the report of a run of the shard
pub shard_reports : {R : Type 0} (gives : Gives R) (args : Arguments) (tests shard : List (Trial R)) (watch : Watched) (result : Result (Conclusion × Report) RunError) → tests ≡ shard
    → IfOk result (λ reported. ReportsRun gives args tests watch reported.0 (contents_read reported.1)) → IfOk result (λ reported. ReportsTrials gives args shard (contents_read reported.1))
shard_reports gives args tests shard watch (Ok reported) e h =
    subst (λ l. ReportsTrials gives args l (contents_read reported.1)) e
    (runs_report gives args tests h.selected h.placed (contents_read reported.1) h.selection h.arranged h.rows h.filtered_out)
shard_reports gives args tests shard watch (Err x) e h = tt
