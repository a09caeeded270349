-- Rows of what workers returned are rows of their trials.
use Rattle.std.proofs.Common.{◌≡◌, ◌∙◌, ℕ, suc, zero, ◌<◌, Bool, false, cond, inl, inr, List, [], ◌∷◌, ◌++◌, None, Option, Some, length, refl, sym, ap, append-nil, subst, arith}
use Rattle.std.specs.Prelude.{All, slice_get, slice_index_or}
use Rattle.std.specs.List.{flat_map, range_with_len}
use Rattle.std.specs.List.Sorted.{IsPermutation}
use Rattle.std.proofs.lemmas.Bool.Decides.{eqb_tells}
use Rattle.std.proofs.lemmas.Bool.{eq-eqb}
use Rattle.std.proofs.lemmas.List.{map-append}
use Rattle.std.proofs.lemmas.List.Elements.{All-cons, All-head, All-nil, All-tail}
use Rattle.libtest_mimic.specs.Prelude.{AnswersPart, Arrived, arrived_at, Assigned, assigned_from, Gathered, GatheredSome, Gives, IsCompleted, IsOutcomeAt, IsOutcomeOf, IsRowOf, Outcome, Placed, placed_at, placed_if, places_of, put_each}
use Rattle.mimic_pool.proofs.Joining.{joined_own_or, length_put_each}
use Rattle.libtest_mimic.proofs.Arranged.{length_assigned}
use Rattle.libtest_mimic.proofs.ArrivedRows.{slice_get-at}

-- ---- the outcome at a place

same_outcome : (a b : Outcome) → Some a ≡ Some b → a ≡ b
same_outcome a b e = cc

got_outcome : (outs : List Outcome) (p : ℕ) (o : Outcome) → slice_get outs p ≡ Some o → (p < length outs) × ((d : Outcome) → slice_index_or outs p d ≡ o)
got_outcome [] p o e = absurd (cc)
got_outcome (x ∷ outs) zero o e = (omega arith, λ d. same_outcome x o e)
got_outcome (x ∷ outs) (suc p) o e = let rest = got_outcome outs p o e in (let low = rest.0 in omega arith, rest.1)

all_front : {A : Type 0} (P : A → Type 0) (xs ys : List A) → All P (xs ++ ys) → All P xs
all_front P [] ys all = All-nil P
all_front P (x ∷ xs) ys all = All-cons P x xs (All-head P x (xs ++ ys) all) (all_front P xs ys (All-tail P x (xs ++ ys) all))

all_more : {A : Type 0} (P Q : A → Type 0) (xs : List A) → ((x : A) → P x → Q x) → All P xs → All Q xs
all_more P Q [] f all = All-nil Q
all_more P Q (x ∷ xs) f all = All-cons Q x xs (f x (All-head P x xs all)) (all_more P Q xs f (All-tail P x xs all))

all_both : {A : Type 0} (P Q S : A → Type 0) (xs : List A) → ((x : A) → P x → Q x → S x) → All P xs → All Q xs → All S xs
all_both P Q S [] f ps qs = All-nil S
all_both P Q S (x ∷ xs) f ps qs = All-cons S x xs (f x (All-head P x xs ps) (All-head Q x xs qs)) (all_both P Q S xs f (All-tail P x xs ps) (All-tail Q x xs qs))

-- the row has the outcome at its place
abbrev StandsIn : List Outcome → Placed → Type 0
StandsIn outs row = slice_get outs row.0 ≡ Some row.1

stands_one : (outs : List Outcome) (p : ℕ) (rest : List Placed) → All (StandsIn outs) rest → (x : Option Outcome) → slice_get outs p ≡ x → All (StandsIn outs) (placed_if p x ++ rest)
stands_one outs p rest all None e = all
stands_one outs p rest all (Some o) e = All-cons (StandsIn outs) (p, o) rest e all

stands_all : (outs : List Outcome) (order : List ℕ) → All (StandsIn outs) (placed_at order outs)
stands_all outs [] = All-nil (StandsIn outs)
stands_all outs (p ∷ order) = stands_one outs p (placed_at order outs) (stands_all outs order) (slice_get outs p) refl

-- ---- what arrived

abbrev HasArrived : List Placed → Placed → Type 0
HasArrived rows row = (o : Outcome) × (arrived_at row.0 rows ≡ Some o)

arrived_more : (first : Placed) (rows : List Placed) (row : Placed) → HasArrived rows row → HasArrived (first ∷ rows) row
arrived_more first rows row was =
    elim (eqb_tells row.0 first.0) [
      | inl e ↦ (first.1, ap (λ b. cond b (Some first.1) (arrived_at row.0 rows)) e.0)
      | inr e ↦ (was.0, ap (λ b. cond b (Some first.1) (arrived_at row.0 rows)) e.0 ∙ was.1)
    ]

arrived_all : (rows : List Placed) → All (HasArrived rows) rows
arrived_all [] = All-nil (HasArrived [])
arrived_all (row ∷ rows) =
    let here : HasArrived (row ∷ rows) row = (row.1, ap (λ b. cond b (Some row.1) (arrived_at row.0 rows)) (eq-eqb row.0 row.0 refl)) in
    All-cons (HasArrived (row ∷ rows)) row rows here (all_more (HasArrived rows) (HasArrived (row ∷ rows)) rows (arrived_more row rows) (arrived_all rows))

-- ---- rows of trials

module _ {R : Type 0} (gives : Gives R) (mode : Bool) (items : List (Assigned R)) where
  row_own : (outs : List Outcome) (row : Placed) → length outs ≡ length items → StandsIn outs row → IsOutcomeAt gives mode items outs row.0 → IsRowOf gives mode items row
  row_own outs row len stands own =
      let got = got_outcome outs row.0 row.1 stands in (
        let low = got.0 in omega (arith, len, low),
        λ x. let Q : Outcome → Type 0 = λ o. IsOutcomeOf gives (slice_index_or items row.0 x).ignored (slice_index_or items row.0 x).runner mode o in subst Q (got.1 row.1) (own x row.1),
      )

  -- outcomes that are own at each place give rows that are own
  pub gathered_own : (order : List ℕ) (outs : List Outcome) → Gathered gives mode items order outs → All (IsRowOf gives mode items) (placed_at order outs)
  gathered_own order outs gathered =
      all_more (StandsIn outs) (IsRowOf gives mode items) (placed_at order outs)
      (λ row stands. let low = (got_outcome outs row.0 row.1 stands).0 in row_own outs row gathered.answered.0 stands (gathered.answered.1 row.0 (omega (arith, low, gathered.answered.0)))) (stands_all outs order)

module _ {R : Type 0} (gives : Gives R) (mode : Bool) (rs : List R) (bs : List Bool) (same : length rs ≡ length bs) where
  abbrev items : List (Assigned R)
  items = assigned_from 0 rs bs

  module _ (old new : Arrived) (joined : List (List Placed)) (places : old.places ≡ length rs) where
    -- what had arrived and was returned, too, is own
    pub arrived_own : (whole : Bool) (dropped : List (Assigned R)) (done : IsCompleted whole old joined new) → whole ≡ false → AnswersPart gives mode items dropped (flat_map (λ rows. rows) joined) → All (IsRowOf gives mode items) old.rows
    arrived_own whole dropped done part answered =
        let base = done.outcomes in
        let outs = put_each joined base in
        let count : length base ≡ length items = done.count ∙ places ∙ sym (length_assigned 0 rs bs same) in
        let len : length outs ≡ length base = length_put_each joined base in
        let returned = done.arrived part in
        let stands : All (StandsIn outs) old.rows = all_front (StandsIn outs) old.rows done.missing (subst (All (StandsIn outs)) (sym done.returned ∙ done.rows) (stands_all outs (places_of new.rows))) in
        all_both (StandsIn outs) (HasArrived old.rows) (IsRowOf gives mode items) old.rows
        (λ row stands arrived. elim (joined_own_or gives mode rs bs dropped joined base row.0 answered count) [
          | inl own ↦ row_own gives mode items outs row (len ∙ count) stands own
          | inr other ↦
              let agrees = returned.agrees row.0 arrived.0 arrived.1 in
              let got = got_outcome outs row.0 arrived.0 agrees in
              let low : row.0 < length base = let below = got.0 in omega (arith, len, below) in
              absurd (returned.others row.0 arrived.0 arrived.1 (slice_get-at base row.0 arrived.0 low (sym (got.1 arrived.0) ∙ other arrived.0)))
        ]) stands (arrived_all old.rows)

    -- and the others are left
    pub some_gathered : (whole : Bool) (dropped : List (Assigned R)) (done : IsCompleted whole old joined new) → whole ≡ false → AnswersPart gives mode items dropped (flat_map (λ rows. rows) joined)
        → GatheredSome gives mode items old.rows (places_of done.missing)
    some_gathered whole dropped done part answered = record {
      own = arrived_own whole dropped done part answered;
      places =
          let all : IsPermutation (places_of old.rows ++ places_of done.missing) (range_with_len 0 old.places) = subst (λ l. IsPermutation l (range_with_len 0 old.places)) (ap places_of done.rows ∙ map-append (λ (q : Placed). q.0) old.rows done.missing) done.all in
          subst (λ (n : ℕ). IsPermutation (places_of old.rows ++ places_of done.missing) (range_with_len 0 n)) (places ∙ sym (length_assigned 0 rs bs same)) all;
    }

-- all rows were gathered
pub all_gathered : {R : Type 0} (gives : Gives R) (mode : Bool) (items : List (Assigned R)) (rows : List Placed) (outs : List Outcome) → rows ≡ placed_at (places_of rows) outs → Gathered gives mode items (places_of rows) outs
    → GatheredSome gives mode items rows []
all_gathered gives mode items rows outs is gathered = record {
  own = subst (All (IsRowOf gives mode items)) (sym is) (gathered_own gives mode items (places_of rows) outs gathered);
  places = subst (λ l. IsPermutation l (range_with_len 0 (length items))) (sym (append-nil (places_of rows))) gathered.whole;
}
