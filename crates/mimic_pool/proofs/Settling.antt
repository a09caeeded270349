-- If each place agrees with what the workers returned, the desk stands for it.
use Rattle.std.proofs.Common.{◌≡◌, ◌<◌, ◌∙◌, ◌++◌, ℕ, List, [], ◌∷◌, ◌||◌, Some, ap, eqb, length, refl, subst, sym, true, ◌+◌, ◌≤◌, All, length-append, slice_set, append-nil, arith}
use Rattle.std.specs.Prelude.{slice_get, unwrap_or}
use Rattle.std.specs.List.{list_any, AllByRecursion, range_with_len}
use Rattle.std.proofs.Math.Bool.{or-true}
use Rattle.std.proofs.lemmas.Bool.{eq-eqb}
use Rattle.std.proofs.lemmas.Option.{slice_get-get_or, get_or_from_slice_get}
use Rattle.std.specs.List.Sorted.{IsPermutation}
use Rattle.std.proofs.lemmas.List.{nil_from_length, set-get_or}
use Rattle.std.proofs.lemmas.List.Elements.{recursion_from_All}
use Rattle.std.proofs.lemmas.List.FromFn.{get_or-map-range_with_len, length-map-range_with_len, length-range_with_len}
use Rattle.std.proofs.lemmas.List.Sorted.{length_permutation}
use Rattle.mimic_pool.specs.Prelude.{AgreesAt, Arrived, arrived_at, arrived_of, HasAll, IsDesk, missing_of, Outcome, outcome_at, outcomes_by_place, Placed, placed_at, placed_if, places_of, put_all, put_each, rows_of_order, StandsFor}
use Rattle.mimic_trial.specs.declared.outcome.Outcome.TheVariants.{Ignored}
use Rattle.mimic_pool.specs.declared.desk.Desk.TheInside.{Inside}
use Rattle.mimic_pool.proofs.Numbering.{arrived_low, found_at, order_shown, shown_whole}

-- rows of which each is the joined outcome at its place
pub all_settled : (at : ℕ → Outcome) (order : List ℕ) (joined : List Outcome) → ((p : ℕ) → list_any (eqb p) order ≡ true → slice_get joined p ≡ Some (at p))
    → rows_of_order order at ≡ placed_at (places_of (rows_of_order order at)) joined
all_settled at [] joined all = refl
all_settled at (p ∷ order) joined all =
    let here = all p (ap (λ t. t || list_any (eqb p) order) (eq-eqb p p refl)) in
    let rest = all_settled at order joined (λ q there. all q (ap (λ t. eqb q p || t) there ∙ or-true (eqb q p))) in
    ap (λ rows. (p, at p) ∷ rows) rest ∙ ap (λ found. placed_if p found ++ placed_at (places_of (rows_of_order order at)) joined) (sym here)

-- the joined outcomes agree with each place, and the rows are these outcomes
pub record IsSettled (shown : Arrived) (joined : List Outcome) : Type 0 where
  pub each : (p : ℕ) → AgreesAt shown.rows joined p
  pub rows : shown.rows ≡ placed_at (places_of shown.rows) joined

module _ (desk : Inside) (holds : IsDesk desk) (joined : List Outcome) where
  all_agree : ((p : ℕ) → p < (arrived_of desk).places → AgreesAt (arrived_of desk).rows joined p) → (p : ℕ) → AgreesAt (arrived_of desk).rows joined p
  all_agree agree p o at = agree p (arrived_low desk holds p o at) o at

  inside_settled : ((p : ℕ) → p < (arrived_of desk).places → AgreesAt (arrived_of desk).rows joined p) → IsSettled (arrived_of desk) joined
  inside_settled agree = record {
    each = all_agree agree;
    rows = all_settled (outcome_at desk) desk.order.items joined (λ p there. all_agree agree p (outcome_at desk p) (sym (found_at desk holds p true there)));
  }

pub settled : (desk : Inside) (shown : Arrived) (joined : List Outcome) → IsDesk desk → arrived_of desk ≡ shown → ((p : ℕ) → p < shown.places → AgreesAt shown.rows joined p) → IsSettled shown joined
settled desk shown joined holds is = subst (λ (d : Arrived). ((p : ℕ) → p < d.places → AgreesAt d.rows joined p) → IsSettled d joined) is (inside_settled desk holds joined)

-- two outcomes are the same if they are so in `Some`
pub some_same : (a b : Outcome) → Some a ≡ Some b → a ≡ b
some_same a b e = cc

-- ---- rows that are put at places that have them already

put_same : (rows : List Placed) (outcomes : List Outcome) → AllByRecursion (λ row. slice_get outcomes row.0 ≡ Some row.1) rows → put_all rows outcomes ≡ outcomes
put_same [] outcomes all = refl
put_same (row ∷ rows) outcomes all =
    let stands = get_or_from_slice_get outcomes row.0 row.1 row.1 all.0 in
    let same : slice_set outcomes row.0 row.1 ≡ outcomes = ap (λ o. slice_set outcomes row.0 o) (sym stands) ∙ set-get_or outcomes row.0 row.1 in
    ap (put_all rows) same ∙ put_same rows outcomes all.1

put_each_same : (returned : List (List Placed)) (outcomes : List Outcome) → AllByRecursion (λ rows. All (λ row. slice_get outcomes row.0 ≡ Some row.1) rows) returned
    → put_each returned outcomes ≡ outcomes
put_each_same [] outcomes all = refl
put_each_same (rows ∷ returned) outcomes all =
    ap (put_each returned) (put_same rows outcomes (recursion_from_All (λ row. slice_get outcomes row.0 ≡ Some row.1) rows all.0)) ∙ put_each_same returned outcomes all.1

-- ---- a desk

module _ (desk : Inside) (holds : IsDesk desk) where
  outcome_stands : (p : ℕ) (o : Outcome) → arrived_at p (arrived_of desk).rows ≡ Some o → slice_get (outcomes_by_place (arrived_of desk)) p ≡ Some o
  outcome_stands p o at =
      let low = arrived_low desk holds p o at in
      let here = λ (place : ℕ). unwrap_or (arrived_at place (arrived_of desk).rows) Ignored in
      slice_get-get_or (outcomes_by_place (arrived_of desk)) p Ignored
      (omega (arith, low, length-map-range_with_len here 0 (length desk.numbers.items)))
      ∙ (ap Some (get_or-map-range_with_len here 0 (length desk.numbers.items) p p Ignored low (omega arith))
      ∙ ap (λ found. Some (unwrap_or found Ignored)) at)

  stands_for : (returned : List (List Placed)) → HasAll (arrived_of desk) returned → StandsFor (arrived_of desk) returned
  stands_for returned has =
      let shown = arrived_of desk in
      let here = λ (place : ℕ). unwrap_or (arrived_at place shown.rows) Ignored in
      let whole = shown_whole desk shown holds refl in record {
        unchanged = put_each_same returned (outcomes_by_place shown)
            (recursion_from_All (λ rows. All (λ row. slice_get (outcomes_by_place shown) row.0 ≡ Some row.1) rows) returned
            (λ k d low. λ j e lower. outcome_stands _ _ (has.same k d low j e lower)));
        rows = all_settled (outcome_at desk) desk.order.items (outcomes_by_place shown) (λ p there. outcome_stands p (outcome_at desk p) (sym (found_at desk holds p true there)));
        len = length-map-range_with_len here 0 (length desk.numbers.items);
        whole = subst (λ (l : List ℕ). IsPermutation l (range_with_len 0 shown.places)) (ap (λ l. places_of shown.rows ++ l) has.complete ∙ append-nil (places_of shown.rows)) whole;
      }

-- a desk that has all rows stands for them
pub all_stand : (desk : Inside) (shown : Arrived) (returned : List (List Placed)) → IsDesk desk → arrived_of desk ≡ shown → HasAll shown returned → StandsFor shown returned
all_stand desk shown returned holds is =
    subst (λ (d : Arrived). HasAll d returned → StandsFor d returned) is (stands_for desk holds returned)

-- ---- whether a desk has all rows

-- the order and the places at which nothing arrived are as many as there are places
order_counts : (desk : Inside) (shown : Arrived) → IsDesk desk → arrived_of desk ≡ shown
    → length desk.order.items + length (missing_of shown) ≡ length desk.numbers.items
order_counts desk shown holds is =
    let all = length_permutation _ _ (shown_whole desk shown holds is) in
    let order = ap length (order_shown (outcome_at desk) desk.order.items) ∙ ap (λ d. length (places_of d.rows)) is in
    omega (arith, all, order, length-append (places_of shown.rows) (missing_of shown), length-range_with_len 0 shown.places, ap (λ d. d.places) is)

-- nothing is missing exactly if the order is as long as there are places
pub missing_none : (desk : Inside) (shown : Arrived) → IsDesk desk → arrived_of desk ≡ shown
    → length desk.numbers.items ≤ length desk.order.items → missing_of shown ≡ []
missing_none desk shown holds is long = nil_from_length _ (omega (arith, long, order_counts desk shown holds is))

pub order_as_long : (desk : Inside) (shown : Arrived) → IsDesk desk → arrived_of desk ≡ shown
    → missing_of shown ≡ [] → length desk.order.items ≡ length desk.numbers.items
order_as_long desk shown holds is none = omega (arith, ap length none, order_counts desk shown holds is)
