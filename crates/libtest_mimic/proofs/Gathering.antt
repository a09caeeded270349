-- What workers reported and answered: the title, the rows that were reported, and then those that were missing.
use Rattle.std.proofs.Common.{◌≡◌, ◌∙◌, ℕ, ◌<◌, ◌||◌, Bool, true, false, inl, inr, List, [], ◌∷◌, ◌++◌, Option, None, Some, Result, Ok, Err, length, map, drop, refl, sym, ap, subst, append_assoc, arith}
use Rattle.std.specs.List.{range_with_len}
use Rattle.std.specs.List.Sorted.{IsPermutation}
use Rattle.std.specs.Prelude.{IfErr, IsErrAnd, MatchResult, is_ok, slice_get}
use Rattle.std.proofs.Math.Seq.{drop-append_seam}
use Rattle.std.proofs.lemmas.List.Concat.{flat_map-append}
use Rattle.libtest_mimic.specs.Prelude.{AddsRows, AgreesAt, AreArrived, AreJoined, AreOutcomes, AreRowsOf, AreTimed, Arrived, arrived_at, Assigned, assigned_from, Ends, Follows, Gathered, GatheredSome, GatheringRefused, Gives, IsCompleted, IsDifference, IsGathered, IsLeastDifference, IsOfRows, IsReturned, Label, label_at, label_of, missing_of, OnNothingWritten, Outcome, Placed, placed_at, placed_if, places_of, PrintedRow, Printer, Put, put_each, PutsArrived, PutsTitled, rows_at, rows_text, RowsRefused, RunError, Shown, shown, Sink, Stopped, TestInfo, title_text, Writes, WrittenAndReturned}
use Rattle.mimic_pool.proofs.Joining.{joined_whole}
use Rattle.mimic_pool.proofs.Placing.{have_places, put_or, row_put}
use Rattle.std.proofs.KnownBytes.{Appends-trans}
use Rattle.mimic_printer.proofs.Adding.{adds_nothing, puts_added}
use Rattle.mimic_printer.proofs.Appending.{Put-Stopped, Put-refl, Put-trans}
use Rattle.libtest_mimic.specs.declared.running.RunError.TheVariants.{OutOfMemory, Write, ZeroThreads, Spawn, Arrival}
use Rattle.libtest_mimic.proofs.Arranged.{length_assigned}
use Rattle.std.proofs.lemmas.Bool.{false≢true}
use Rattle.std.proofs.lemmas.List.{map-append}
use Rattle.libtest_mimic.proofs.Returned.{all_gathered, some_gathered}
use Rattle.libtest_mimic.proofs.ArrivedRows.{count_rows_at, rows_text-append, timed_joined}
use Rattle.libtest_mimic.proofs.Timed.{any_times, are_any_times}

-- an answer that is this error
pub on_error : {T E : Type 0} (r : Result T E) (error : E) (P : T → Type 0) (Q : E → Type 0) → IsErrAnd r (λ e. e ≡ error) → Q error → MatchResult r P Q
on_error (Ok x) error P Q e q = absurd e
on_error (Err x) error P Q e q = subst Q (sym e) q

pub on_err : {T E : Type 0} (r : Result T E) (error : E) (Q : E → Type 0) → IsErrAnd r (λ e. e ≡ error) → Q error → IfErr r Q
on_err (Ok x) error Q e q = absurd e
on_err (Err x) error Q e q = subst Q (sym e) q

-- whatever was written comes after what was there before
pub follows : {E T : Type 0} (a b c : Shown) (s t : List ℕ) (r : Result T E) → Put a b s → Writes b c t r → Follows a c
follows a b c s t (Ok x) p q =
    let both = Put-trans s t p q in record { text = s ++ t; appended = both.appended; kept = omega (arith, both.faults); one = omega (arith, both.faults) }
follows a b c s t (Err e) p q =
    let both = Put-Stopped s t p q in record { text = both.front; appended = both.appended; kept = omega (arith, both.faults); one = omega (arith, both.faults) }

-- ---- what the workers answered

module _ {R : Type 0} (gives : Gives R) (mode : Bool) (rs : List R) (bs : List Bool) (same : length rs ≡ length bs) where
  -- there are as many outcomes as trials
  pub outcomes_count : (whole : Bool) (joined : List (List Placed)) (old new : Arrived) (done : IsCompleted whole old joined new) → old.places ≡ length rs → length done.outcomes ≡ length (assigned_from 0 rs bs)
  outcomes_count whole joined old new done places = done.count ∙ places ∙ sym (length_assigned 0 rs bs same)

  -- if each place has an own outcome: what a desk has once it was completed with what the workers returned
  pub completed_gathered : (whole : Bool) (joined : List (List Placed)) (old new : Arrived) (done : IsCompleted whole old joined new) → AreOutcomes gives mode (assigned_from 0 rs bs) (put_each joined done.outcomes) → old.places ≡ length rs
      → Gathered gives mode (assigned_from 0 rs bs) (places_of new.rows) (put_each joined done.outcomes)
  completed_gathered whole joined old new done own places =
      let all : length rs ≡ length (assigned_from 0 rs bs) = sym (length_assigned 0 rs bs same) in
      record {
        answered = own;
        whole = subst (λ (k : ℕ). IsPermutation (places_of new.rows) (range_with_len 0 k)) (places ∙ all) done.all;
      }

-- ---- the rows that were missing

again_step : (outs : List Outcome) (p : ℕ) (rest : List Placed) → placed_at (places_of rest) outs ≡ rest → (x : Option Outcome) → slice_get outs p ≡ x
    → placed_at (places_of (placed_if p x ++ rest)) outs ≡ placed_if p x ++ rest
again_step outs p rest same None e = same
again_step outs p rest same (Some o) e = ap (λ y. placed_if p y ++ placed_at (places_of rest) outs) e ∙ ap (λ l. (p, o) ∷ l) same

-- rows by place are those at their own places
again : (outs : List Outcome) (order : List ℕ) → placed_at (places_of (placed_at order outs)) outs ≡ placed_at order outs
again outs [] = refl
again outs (p ∷ order) =
    again_step outs p (placed_at order outs) (again outs order) (slice_get outs p) refl

-- a desk at which the missing outcomes arrived has the returned ones
pub completed : (old new : Arrived) (joined : List (List Placed)) (start outs : List Outcome) → length start ≡ old.places → outs ≡ put_each joined start → old.rows ≡ placed_at (places_of old.rows) outs
    → new.rows ≡ old.rows ++ placed_at (missing_of old) outs → IsPermutation (places_of new.rows) (range_with_len 0 old.places)
    → IsReturned old start outs → (whole : Bool) → IsCompleted whole old joined new
completed old new joined start outs count put settled more all_places returned whole =
    let all : new.rows ≡ placed_at (places_of old.rows ++ missing_of old) outs =
    more ∙ ap (λ l. l ++ placed_at (missing_of old) outs) settled ∙ sym (flat_map-append (λ place. placed_if place (slice_get outs place)) (places_of old.rows) (missing_of old)) in
    record {
      outcomes = start;
      count = count;
      missing = placed_at (missing_of old) outs;
      rows = more;
      returned = all ∙ sym (again outs (places_of old.rows ++ missing_of old)) ∙ ap (λ l. placed_at (places_of l) outs) (sym all) ∙ ap (placed_at (places_of new.rows)) put;
      all = all_places;
      arrived = λ _. subst (IsReturned old start) put returned;
    }

rest_of : (labels : List Label) (xs ys : List Placed) (k : ℕ) → k ≡ length xs → drop k (rows_at labels (xs ++ ys)) ≡ rows_at labels ys
rest_of labels xs ys k e =
    ap (λ n. drop n (rows_at labels (xs ++ ys))) (e ∙ sym (count_rows_at labels xs))
    ∙ ap (drop (length (rows_at labels xs))) (map-append (λ (q : Placed). record { label = label_at labels q.0; outcome = q.1; nanos = None }) xs ys)
    ∙ drop-append_seam (rows_at labels xs) (rows_at labels ys)

-- ---- the texts

-- an empty desk has no rows to write
pub nothing_arrived : {W : Type 0} {contents : W → Option (List ℕ)} (asked : Bool) (p : Printer) (infos : List TestInfo) (desk : Arrived) (n : ℕ) → desk ≡ record { places = n; rows = [] } → (s : Sink W)
    → AddsRows contents p (AreArrived asked infos desk) s s
nothing_arrived asked p infos desk n e s = ([], subst (λ (d : Arrived). AreArrived asked infos d []) (sym e) tt, adds_nothing s)

-- rows of which this holds were appended, or a beginning of them
abbrev pub WritesRows : {E T : Type 0} → Printer → (List PrintedRow → Type 0) → Shown → Shown → Result T E → Type 0
WritesRows p Are old new r = (rows : List PrintedRow) × Are rows × Writes old new (rows_text p rows) r

-- so it is once rows were added and the sink was ended
pub rows_ended : {W E T : Type 0} {contents : W → Option (List ℕ)} {a b c : Sink W} (p : Printer) (Are : List PrintedRow → Type 0) (r : Result T E) → AddsRows contents p Are a b → Ends b c r
    → WritesRows p Are (shown contents a) (shown contents c) r
rows_ended p Are r (rows, are, text) ends = (rows, are, puts_added (rows_text p rows) r text ends)

-- a beginning of a text is one of a longer text
pub Stopped-more : {a b : Shown} (s t : List ℕ) → Stopped a b s → Stopped a b (s ++ t)
Stopped-more s t p = record {
  front = p.front;
  rest = p.rest ++ t;
  beginning = ap (λ l. l ++ t) p.beginning ∙ append_assoc p.front p.rest t;
  appended = p.appended;
  faults = p.faults;
}

-- a beginning of the rows that arrived was appended
abbrev pub StopsArrived : Bool → Printer → List TestInfo → Arrived → Shown → Shown → Type 0
StopsArrived asked p infos desk a b = (rows : List PrintedRow) × AreArrived asked infos desk rows × Stopped a b (rows_text p rows)

module _ (asked : Bool) (p : Printer) (infos : List TestInfo) (whole : Bool) (old new : Arrived) (joined : List (List Placed)) (done : IsCompleted whole old joined new) where
  -- the rows that were reported, and then those that were missing
  split : (us vs : List PrintedRow) → AreArrived asked infos old us → AreTimed asked (rows_at (map label_of infos) done.missing) vs → AreArrived asked infos new (us ++ vs)
  split us vs before behind =
      let P : List Placed → Type 0 = λ l. AreTimed asked (rows_at (map label_of infos) l) (us ++ vs) in
      subst P (sym done.rows) (timed_joined asked (map label_of infos) old.rows done.missing us vs before behind)

  module _ (a b : Shown) where
    -- a fault in a row that was reported
    pub stopped_arrived : StopsArrived asked p infos old a b → StopsArrived asked p infos new a b
    stopped_arrived (us, timed, s) =
        let missing = rows_at (map label_of infos) done.missing in
        let vs = any_times asked missing in
        (us ++ vs, split us vs timed (are_any_times asked missing), subst (λ t. Stopped a b t) (sym (rows_text-append p us vs)) (Stopped-more _ (rows_text p vs) s))

    module _ (c : Shown) (arrived : PutsArrived asked p infos old a b) (k : ℕ) (count : k ≡ length old.rows) where
      abbrev AreFrom : List PrintedRow → Type 0
      AreFrom vs = AreTimed asked (drop k (rows_at (map label_of infos) new.rows)) vs

      are_missing : (vs : List PrintedRow) → AreFrom vs → AreTimed asked (rows_at (map label_of infos) done.missing) vs
      are_missing vs timed =
          subst (λ l. AreTimed asked l vs) (ap (λ l. drop k (rows_at (map label_of infos) l)) done.rows ∙ rest_of (map label_of infos) old.rows done.missing k count) timed

      -- a fault in a row that was missing
      pub stopped_missing : (vs : List PrintedRow) × AreFrom vs × Stopped b c (rows_text p vs) → StopsArrived asked p infos new a c
      stopped_missing (vs, timed, s) =
          let us = arrived.0 in
          (us ++ vs, split us vs arrived.1 (are_missing vs timed), subst (λ t. Stopped a c t) (sym (rows_text-append p us vs)) (Put-Stopped _ _ arrived.2 s))

      pub put_all : (vs : List PrintedRow) × AreFrom vs × Put b c (rows_text p vs) → PutsArrived asked p infos new a c
      put_all (vs, timed, s) =
          let us = arrived.0 in
          (us ++ vs, split us vs arrived.1 (are_missing vs timed), subst (λ t. Put a c t) (sym (rows_text-append p us vs)) (Put-trans _ _ arrived.2 s))

-- a write fault in rows that were reported. If the workers ran all trials, all rows are theirs, else those that were reported are
pub arrival_refused : {R : Type 0} (gives : Gives R) (mode : Bool) (rs : List R) (bs : List Bool) (same : length rs ≡ length bs) (asked : Bool) (p : Printer) (infos : List TestInfo) (runs whole : Bool) (old new : Arrived) (joined : List (List Placed))
    (done : IsCompleted whole old joined new) → whole ≡ false → AreJoined gives mode (assigned_from 0 rs bs) (runs || whole) joined → old.places ≡ length rs → (a b : Shown) → StopsArrived asked p infos old a b
    → (placed : List Placed) × (left : List ℕ) × (rows : List PrintedRow) × GatheredSome gives mode (assigned_from 0 rs bs) placed left × (runs ≡ true → left ≡ []) × AreRowsOf asked infos placed rows × Stopped a b (rows_text p rows)
arrival_refused gives mode rs bs same asked p infos true whole old new joined done part are places a b stopped =
    let all = stopped_arrived asked p infos whole old new joined done a b stopped in (
      new.rows,
      [],
      all.0,
      all_gathered gives mode (assigned_from 0 rs bs) new.rows (put_each joined done.outcomes) done.returned (completed_gathered gives mode rs bs same whole joined old new done (joined_whole gives mode rs bs true joined are refl done.outcomes (outcomes_count gives mode rs bs same whole joined old new done places)) places),
      λ _. refl,
      all.1,
      all.2,
    )
arrival_refused gives mode rs bs same asked p infos false whole old new joined done part are places a b stopped = (
  old.rows,
  places_of done.missing,
  stopped.0,
  some_gathered gives mode rs bs same old new joined places whole are.dropped done part are.answered,
  λ runs. absurd (false≢true runs),
  stopped.1,
  stopped.2,
)

-- ---- the title and the rows

module _ {R : Type 0} (gives : Gives R) (mode : Bool) (items : List (Assigned R)) (p : Printer) (infos : List TestInfo)
    (a b c : Shown) (n : ℕ) (count : n ≡ length infos) (title : Put a b (title_text p n)) where
  titled : Put a b (title_text p (length infos))
  titled = subst (λ (k : ℕ). Put a b (title_text p k)) count title

  -- what was written if rows were refused that came after the title
  after_title : (all asked : Bool) (e : RunError) → GatheringRefused gives mode items all (AreRowsOf asked infos) p b c e → RowsRefused gives mode items asked p infos a c e
  after_title all asked OutOfMemory h = absurd h
  after_title all asked (Write fault) (placed, left, rows, some, none, timed, s) = inr (placed, left, rows, some, timed, Put-Stopped _ _ titled s)
  after_title all asked ZeroThreads h = absurd h
  after_title all asked Spawn h = absurd h
  after_title all asked (Arrival place) (low, h, named) =
      (low, record { text = title_text p (length infos) ++ h.text; appended = Appends-trans a.bytes b.bytes c.bytes (title_text p (length infos)) h.text titled.appended h.appended; kept = omega (arith, titled.faults, h.kept); one = omega (arith, titled.faults, h.one) })

  -- and what was written if they were not
  titled_all : (asked : Bool) (desk : Arrived) → IsGathered gives mode items desk × PutsArrived asked p infos desk b c → IsGathered gives mode items desk × PutsTitled asked p infos desk a c
  titled_all asked desk (gathered, put) = (gathered, (put.0, put.1, Put-trans _ _ titled put.2))

  -- either way, with times as they are noted
  pub rows_titled : (all timed asked : Bool) → timed ≡ asked → (r : Result Arrived RunError)
      → MatchResult r (λ desk. IsGathered gives mode items desk × PutsArrived timed p infos desk b c) (λ e. GatheringRefused gives mode items all (AreRowsOf timed infos) p b c e)
      → MatchResult r (λ desk. IsGathered gives mode items desk × PutsTitled asked p infos desk a c) (λ e. RowsRefused gives mode items asked p infos a c e)
  rows_titled all timed asked noted (Ok desk) h = subst (λ (t : Bool). IsGathered gives mode items desk × PutsTitled t p infos desk a c) noted (titled_all timed desk h)
  rows_titled all timed asked noted (Err e) h = subst (λ (t : Bool). RowsRefused gives mode items t p infos a c e) noted (after_title all timed e h)

-- ---- a difference

-- something arrived at a place that doesn't agree
arrived_there : (rows : List Placed) (outs : List Outcome) (p : ℕ) (x : Option Outcome) → arrived_at p rows ≡ x → ¬ AgreesAt rows outs p → (o : Outcome) × (arrived_at p rows ≡ Some o)
arrived_there rows outs p None e differs = absurd (differs (λ o first. absurd (let none = sym e ∙ first in cc)))
arrived_there rows outs p (Some o) e differs = (o, e)

pub or_true : (runs whole : Bool) → whole ≡ true → (runs || whole) ≡ true
or_true true whole all = refl
or_true false whole all = all

or_false : (runs whole : Bool) → whole ≡ false → (runs || whole) ≡ runs
or_false true whole part = refl
or_false false whole part = part

module _ {R : Type 0} (gives : Gives R) (mode : Bool) (rs : List R) (bs : List Bool) where
  abbrev trials : List (Assigned R)
  trials = assigned_from 0 rs bs

  -- what differs from the outcomes that were put is no row of a worker
  least_difference : (whole : Bool) (desk : Arrived) (joined : List (List Placed)) (e : RunError) (difference : IsDifference desk joined e) → AreJoined gives mode trials whole joined
      → IsLeastDifference desk.rows joined difference.named.place
  least_difference whole desk joined e difference are =
      let named = difference.named in
      let first = arrived_there desk.rows (put_each joined difference.outcomes) named.place (arrived_at named.place desk.rows) refl named.differs in
      let low : named.place < length difference.outcomes = omega (arith, named.below, difference.count) in
      record {
        outcome = first.0;
        first = first.1;
        differs = λ has. named.differs (λ o came. row_put whole (length trials) joined difference.outcomes named.place first.0 (have_places gives mode rs bs whole joined are) low has ∙ (sym first.1 ∙ came));
        least = λ earlier o below came. elim (put_or joined difference.outcomes earlier o (named.least earlier below o came)) [
          | inl has ↦ has
          | inr before ↦ absurd (difference.others earlier o came before)
        ];
      }

  was_written : {E T : Type 0} (all whole : Bool) (r : Result T E) (text : List ℕ) (a b : Shown) (joined : List (List Placed)) → whole ≡ is_ok r → Writes a b text r → AreJoined gives mode trials (all || whole) joined
      → WrittenAndReturned gives mode trials all text a b joined
  was_written all whole (Ok x) text a b joined is put are = inl (put, subst (λ (w : Bool). AreJoined gives mode trials w joined) (or_true all whole is) are)
  was_written all whole (Err x) text a b joined is stopped are = inr (stopped, subst (λ (w : Bool). AreJoined gives mode trials w joined) (or_false all whole is) are)

  -- a difference that is named
  pub differs_refused : {E T : Type 0} (all whole asked : Bool) (r : Result T E) (p : Printer) (infos : List TestInfo) (a b : Shown) (desk : Arrived) (joined : List (List Placed)) → desk.places ≡ length trials → whole ≡ is_ok r
      → IsPermutation (places_of desk.rows ++ missing_of desk) (range_with_len 0 desk.places)
      → WritesRows p (AreArrived asked infos desk) a b r → AreJoined gives mode trials (all || whole) joined → (e : RunError) → IsDifference desk joined e → GatheringRefused gives mode trials all (AreRowsOf asked infos) p a b e
  differs_refused all whole asked r p infos a b desk joined places is once (rows, timed, written) are e difference =
      let named = difference.named in
      subst (GatheringRefused gives mode trials all (AreRowsOf asked infos) p a b) (sym named.named) (
        subst (λ (n : ℕ). named.place < n) places named.below,
        follows a a b [] (rows_text p rows) r (Put-refl a) written,
        record {
          arrived = desk.rows;
          missing = missing_of desk;
          once = subst (λ (n : ℕ). IsPermutation (places_of desk.rows ++ missing_of desk) (range_with_len 0 n)) places once;
          returned = joined;
          rows = rows;
          are = timed;
          written = was_written all whole r (rows_text p rows) a b joined is written are;
          least = least_difference (all || whole) desk joined e difference are;
        },
      )

-- such a refusal comes when something was written
pub written_before : {T : Type 0} (r : Result T RunError) (P : Type 0) → IfErr r IsOfRows → OnNothingWritten r P
written_before (Ok x) P h = tt
written_before (Err OutOfMemory) P h = absurd h
written_before (Err (Write fault)) P h = tt
written_before (Err ZeroThreads) P h = absurd h
written_before (Err Spawn) P h = absurd h
written_before (Err (Arrival place)) P h = tt

-- such a refusal comes when nothing was
pub not_written : {T : Type 0} (r : Result T RunError) (P : Type 0) → P → OnNothingWritten r P
not_written (Ok x) P p = tt
not_written (Err OutOfMemory) P p = p
not_written (Err (Write fault)) P p = tt
not_written (Err ZeroThreads) P p = p
not_written (Err Spawn) P p = tt
not_written (Err (Arrival place)) P p = tt
