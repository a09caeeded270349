-- What the numbers and the order of a desk show.
use Rattle.std.proofs.Common.{◌≡◌, ◌≢◌, ℕ, suc, zero, ◌+◌, ◌-◌, ◌<◌, ◌≤◌, ◌==◌, eqb, Bool, true, false, not, ◌||◌, cond, List, [], ◌∷◌, ◌++◌, Some, None, length, length-append, slice_index_or, slice_set, refl, sym, ◌∙◌, ap, ap₂, subst, vec_capacity, inl, inr, arith}
use Rattle.std.specs.Prelude.{slice_get}
use Rattle.std.specs.List.{list_any, IsDistinct, range_with_len}
use Rattle.std.specs.List.Sorted.{IsPermutation}
use Rattle.std.specs.Option.{option_map}
use Rattle.std.proofs.Math.Bool.{or-false, or-true}
use Rattle.std.proofs.Math.ListN.{get_or-append, get_or-eq_default, length-set}
use Rattle.std.proofs.lemmas.Grind.{get_or-set_at}
use Rattle.std.proofs.lemmas.List.{get_or-set_other, get_or_read_under, length-map, map-append}
use Rattle.std.proofs.lemmas.List.Folds.{list_any-append}
use Rattle.std.proofs.lemmas.Cmp.{nat_eq_equiv}
use Rattle.std.proofs.lemmas.Bool.{cases_Bool, eq-eqb}
use Rattle.std.proofs.lemmas.Bool.Decides.{eqb_tells}
use Rattle.std.proofs.lemmas.Map.Keys.{IsDistinct-push}
use Rattle.std.proofs.lemmas.Map.Steps.{length-le_from_distinct_below}
use Rattle.std.proofs.lemmas.Option.{get_or_from_slice_get, slice_get-get_or, slice_get-map, slice_get_within}
use Rattle.mimic_pool.specs.Prelude.{Arrived, arrived_at, arrived_of, Begins, free_from, has_come, IsDesk, kept_of, missing_of, Outcome, outcome_at, Placed, places_of, rows_of_order}
use Rattle.mimic_trial.specs.declared.outcome.Outcome.TheVariants as outcome
use Rattle.mimic_pool.specs.declared.desk.Desk.TheInside.{Inside}
use Rattle.mimic_pool.proofs.Ordering.{filter_same, order_whole}

-- ---- places in an order, each with its outcome

module _ (at : ℕ → Outcome) where
  pub has_shown : (order : List ℕ) (p : ℕ) → has_come p (rows_of_order order at) ≡ list_any (eqb p) order
  has_shown [] p = refl
  has_shown (x ∷ xs) p = ap (λ t. eqb p x || t) (has_shown xs p)

  pub order_shown : (order : List ℕ) → order ≡ places_of (rows_of_order order at)
  order_shown [] = refl
  order_shown (x ∷ xs) = ap (λ l. x ∷ l) (order_shown xs)

  pub row_shown : (order : List ℕ) (p : ℕ) → arrived_at p (rows_of_order order at) ≡ cond (list_any (eqb p) order) (Some (at p)) None
  row_shown [] p = refl
  row_shown (x ∷ xs) p =
      let first = λ (t : Bool). cond t (Some (at x)) (arrived_at p (rows_of_order xs at)) in
      let last = λ (t : Bool). cond (t || list_any (eqb p) xs) (Some (at p)) None in
      elim (eqb_tells p x) [
        | inl e ↦ ap first e.0 ∙ (ap (λ q. Some (at q)) (sym e.1) ∙ sym (ap last e.0))
        | inr e ↦ ap first e.0 ∙ (row_shown xs p ∙ sym (ap last e.0))
      ]

  row_at : (order : List ℕ) (k p : ℕ) → slice_get order k ≡ Some p → slice_get (rows_of_order order at) k ≡ Some (p, at p)
  row_at order k p is = slice_get-map (λ q. (q, at q)) order k ∙ ap (λ found. option_map (λ q. (q, at q)) found) is

-- the rows after one more place, if the outcomes at all others stay
module _ (at now : ℕ → Outcome) (p : ℕ) (others : (q : ℕ) → q ≢ p → now q ≡ at q) where
  shown_others : (order : List ℕ) → list_any (eqb p) order ≡ false → rows_of_order order now ≡ rows_of_order order at
  shown_others [] none = refl
  shown_others (x ∷ xs) none =
      elim (eqb_tells p x) [
        | inl e ↦ absurd (grind (arith, e.0, none))
        | inr e ↦
            let rest = shown_others xs (ap (λ t. t || list_any (eqb p) xs) (sym e.0) ∙ none) in
            let other : x ≢ p = λ same. e.1 (sym same) in
            ap₂ (λ o rows. (x, o) ∷ rows) (others x other) rest
      ]

  shown_more : (order : List ℕ) (o : Outcome) → now p ≡ o → list_any (eqb p) order ≡ false → rows_of_order (order ++ p ∷ []) now ≡ rows_of_order order at ++ (p, o) ∷ []
  shown_more order o here none =
      map-append (λ q. (q, now q)) order (p ∷ []) ∙ ap₂ (λ rows v. rows ++ (p, v) ∷ []) (shown_others order none) here

-- ---- an order of different places

pub distinct_more : (xs : List ℕ) (p : ℕ) → IsDistinct eqb xs → list_any (eqb p) xs ≡ false → IsDistinct eqb (xs ++ p ∷ [])
distinct_more xs p d none = IsDistinct-push nat_eq_equiv xs p d none

-- an order of places and one more behind them
module _ (order : List ℕ) (p : ℕ) where
  in_more : (q : ℕ) (b : Bool) → eqb q p ≡ b → list_any (eqb q) (order ++ p ∷ []) ≡ (list_any (eqb q) order || (b || false))
  in_more q b is = list_any-append (eqb q) order (p ∷ []) ∙ ap (λ t. list_any (eqb q) order || (t || false)) is

  -- if the flags say which places are in the order, the flags with that of p set say which are in the order with p
  pub flags_more : (flag now : ℕ → Bool) → ((q : ℕ) → list_any (eqb q) order ≡ flag q) → now p ≡ true → ((q : ℕ) → q ≢ p → now q ≡ flag q)
      → (q : ℕ) → list_any (eqb q) (order ++ p ∷ []) ≡ now q
  flags_more flag now known here others q =
      elim (eqb_tells q p) [
        | inl e ↦ in_more q true e.0 ∙ (or-true (list_any (eqb q) order) ∙ (sym here ∙ ap now (sym e.1)))
        | inr e ↦ in_more q false e.0 ∙ (or-false (list_any (eqb q) order) ∙ (known q ∙ sym (others q e.1)))
      ]

  -- there is room for a place that is not in the order
  module _ (n : ℕ) (below : (q : ℕ) → list_any (eqb q) order ≡ true → q < n) (low : p < n) where
    more_below : (q : ℕ) → list_any (eqb q) (order ++ p ∷ []) ≡ true → q < n
    more_below q h =
        elim (eqb_tells q p) [
          | inl e ↦ let same = e.1 in omega arith
          | inr e ↦ below q (sym (or-false (list_any (eqb q) order)) ∙ (sym (in_more q false e.0) ∙ h))
        ]

    pub room_left : IsDistinct eqb order → list_any (eqb p) order ≡ false → length order < n
    room_left distinct free =
        let more = length-le_from_distinct_below (order ++ p ∷ []) n (distinct_more order p distinct free) more_below in
        let len = length-append order (p ∷ []) in
        omega arith

pub distinct_none : IsDistinct eqb []
unfolding IsDistinct
distinct_none = tt

-- ---- a desk

not_zero : (n : ℕ) → (n ≡ 0 → ⊥) → not (n == 0) ≡ true
not_zero n some = elim (eqb_tells n 0) [ inl e ↦ absurd (some e.1) | inr e ↦ ap not e.0 ]

not_not : (b : Bool) → b ≡ not (not b)
not_not true = refl
not_not false = refl

some_below : (numbers : List ℕ) (p : ℕ) → not (slice_index_or numbers p 0 == 0) ≡ true → p < length numbers
some_below [] p some = absurd (cc)
some_below (n ∷ numbers) zero some = omega arith
some_below (n ∷ numbers) (suc p) some = let rest = some_below numbers p some in omega arith

module _ (desk : Inside) (is : IsDesk desk) where
  -- each place in the order is one of the desk's
  pub places_below : (q : ℕ) → list_any (eqb q) desk.order.items ≡ true → q < length desk.numbers.items
  places_below q h = some_below desk.numbers.items q (sym (is.taken q) ∙ h)

  -- at places whose number is 0 nothing came, so that the same places are missing
  pub missing_shown : free_from 0 (length desk.numbers.items) desk.numbers.items ≡ missing_of (arrived_of desk)
  missing_shown = filter_same _ _
      (λ p. not_not (slice_index_or desk.numbers.items p 0 == 0) ∙ sym (ap not (has_shown (outcome_at desk) desk.order.items p ∙ is.taken p)))
      (range_with_len 0 (length desk.numbers.items))

  pub come_at : (p : ℕ) (b : Bool) → list_any (eqb p) desk.order.items ≡ b → has_come p (arrived_of desk).rows ≡ b
  come_at p b known = has_shown (outcome_at desk) desk.order.items p ∙ known

  -- what arrived at a place, by whether it is in the order
  pub found_at : (p : ℕ) (b : Bool) → list_any (eqb p) desk.order.items ≡ b → cond b (Some (outcome_at desk p)) None ≡ arrived_at p (arrived_of desk).rows
  found_at p b known = sym (row_shown (outcome_at desk) desk.order.items p ∙ ap (λ t. cond t (Some (outcome_at desk p)) None) known)

  pub arrived_low : (p : ℕ) (o : Outcome) → arrived_at p (arrived_of desk).rows ≡ Some o → p < length desk.numbers.items
  arrived_low p o some = elim (cases_Bool (list_any (eqb p) desk.order.items)) [
    | inl t ↦ places_below p t
    | inr f ↦ absurd (let no = found_at p false f ∙ some in cc)
  ]

  -- nothing arrived at a place that the desk doesn't have
  pub none_high : (p : ℕ) → length desk.numbers.items ≤ p → None ≡ arrived_at p (arrived_of desk).rows
  none_high p high = found_at p false (is.taken p ∙ ap (λ n. not (n == 0)) (get_or-eq_default desk.numbers.items 0 high))

  -- the number of a place, what it shows about the order, and the outcome
  module _ (p number : ℕ) (low : p < length desk.numbers.items) (at : number ≡ slice_index_or desk.numbers.items p number) where
    number_is : number ≡ slice_index_or desk.numbers.items p 0
    number_is = get_or_read_under desk.numbers.items p (length desk.numbers.items) number 0 at low refl

    pub number_taken : (number ≡ 0 → ⊥) → list_any (eqb p) desk.order.items ≡ true
    number_taken some = is.taken p ∙ (ap (λ n. not (n == 0)) (sym number_is) ∙ not_zero number some)

    pub number_free : number ≡ 0 → list_any (eqb p) desk.order.items ≡ false
    number_free none = is.taken p ∙ (ap (λ n. not (n == 0)) (sym number_is) ∙ ap (λ n. not (n == 0)) none)

    pub number_low : number ≤ length desk.outcomes.items
    number_low = omega (arith, number_is, is.found p)

    pub outcome_read : (o : Outcome) → (number ≡ 0 → ⊥) → o ≡ slice_index_or desk.outcomes.items (number - 1) o → o ≡ outcome_at desk p
    outcome_read o some read =
        get_or_read_under desk.outcomes.items (number - 1) (length desk.outcomes.items) o outcome.Ignored read (omega (arith, number_low, some)) refl
        ∙ ap (λ n. slice_index_or desk.outcomes.items (n - 1) outcome.Ignored) number_is

-- the places of what a desk shows, and then those that are missing, are all places, each once
pub shown_whole : (desk : Inside) (shown : Arrived) → IsDesk desk → arrived_of desk ≡ shown → IsPermutation (places_of shown.rows ++ missing_of shown) (range_with_len 0 shown.places)
shown_whole desk shown holds is =
    let order = desk.order.items in
    let same : order ≡ places_of (rows_of_order order (outcome_at desk)) = order_shown (outcome_at desk) order in
    let P : List ℕ → Type 0 = λ l. IsDistinct eqb l in
    let Q : List ℕ → Type 0 = λ l. (p : ℕ) → list_any (eqb p) l ≡ true → p < length desk.numbers.items in
    let R : Arrived → Type 0 = λ d. IsPermutation (places_of d.rows ++ missing_of d) (range_with_len 0 d.places) in
    let whole : R (arrived_of desk) =
    order_whole (length desk.numbers.items) (rows_of_order order (outcome_at desk)) _ (subst P same holds.distinct)
    (subst Q same (places_below desk holds)) refl in
    subst R is whole

-- ---- a first arrival

-- the first two stay
pub begins_more : (outcomes more : List Outcome) → Begins outcomes → Begins (outcomes ++ more)
begins_more [] more begins = absurd (let no = begins.passed in cc)
begins_more (o ∷ []) more begins = absurd (let no = begins.ignored in cc)
begins_more (o ∷ p ∷ outcomes) more begins = record { passed = begins.passed; ignored = begins.ignored }

kept_one : (o : Outcome) → length (kept_of o) ≤ 1
kept_one outcome.Passed = omega arith
kept_one (outcome.Failed failed) = omega arith
kept_one outcome.Ignored = omega arith
kept_one (outcome.Measured measured) = omega arith

module _ (desk : Inside) (is : IsDesk desk) (p : ℕ) (low : p < length desk.numbers.items) (free : list_any (eqb p) desk.order.items ≡ false) where
  pub desk_fits : length desk.order.items < length desk.numbers.items
  desk_fits = room_left desk.order.items p (length desk.numbers.items) (places_below desk is) low is.distinct free

  -- the number of an outcome is written at the place
  module _ (o : Outcome) (new : Inside) (number : ℕ)
      (outcomes : new.outcomes.items ≡ desk.outcomes.items ++ kept_of o)
      (lies : (1 ≤ number) × (slice_get new.outcomes.items (number - 1) ≡ Some o))
      (numbers : new.numbers.items ≡ slice_set desk.numbers.items p number)
      (order : new.order.items ≡ desk.order.items ++ p ∷ []) where
    here : slice_index_or new.numbers.items p 0 ≡ number
    here = ap (λ l. slice_index_or l p 0) numbers ∙ get_or-set_at desk.numbers.items p p number 0 refl low

    others : (q : ℕ) → q ≢ p → slice_index_or new.numbers.items q 0 ≡ slice_index_or desk.numbers.items q 0
    others q other = ap (λ l. slice_index_or l q 0) numbers ∙ get_or-set_other desk.numbers.items p q number 0 other

    outcome_here : outcome_at new p ≡ o
    outcome_here =
        ap (λ n. slice_index_or new.outcomes.items (n - 1) outcome.Ignored) here
        ∙ get_or_from_slice_get new.outcomes.items (number - 1) o outcome.Ignored lies.1

    outcome_others : (q : ℕ) → q ≢ p → outcome_at new q ≡ outcome_at desk q
    outcome_others q other =
        let some = slice_get_within desk.outcomes.items 0 outcome.Passed is.begins.passed in
        ap₂ (λ l n. slice_index_or l (n - 1) outcome.Ignored) outcomes (others q other)
        ∙ get_or-append desk.outcomes.items (kept_of o) outcome.Ignored (slice_index_or desk.numbers.items q 0 - 1) (omega (arith, some, is.found q))

    found_more : (q : ℕ) → slice_index_or new.numbers.items q 0 ≤ length new.outcomes.items
    found_more q = elim (eqb_tells q p) [
      | inl e ↦
          let there : slice_index_or new.numbers.items q 0 ≡ number = ap (λ r. slice_index_or new.numbers.items r 0) e.1 ∙ here in
          omega (arith, there, slice_get_within new.outcomes.items (number - 1) o lies.1)
      | inr e ↦
          let len = ap length outcomes ∙ length-append desk.outcomes.items (kept_of o) in
          omega (arith, others q e.1, is.found q, len)
    ]

    -- the desk shows one row more
    pub rows_more : (arrived_of new).rows ≡ (arrived_of desk).rows ++ (p, o) ∷ []
    rows_more =
        ap (λ places. rows_of_order places (outcome_at new)) order
        ∙ shown_more (outcome_at desk) (outcome_at new) p outcome_others desk.order.items o outcome_here free

    pub desk_more : vec_capacity new.outcomes ≡ vec_capacity desk.outcomes → vec_capacity new.order ≡ vec_capacity desk.order → IsDesk new
    desk_more outcomes_room order_room =
        let same = ap length numbers ∙ length-set desk.numbers.items p number in
        let len = length-append desk.outcomes.items (kept_of o) in
        let longer = length-append desk.order.items (p ∷ []) in
        let some : number ≡ 0 → ⊥ = λ none. let one = lies.0 in omega (arith, none, one) in
        record {
          taken = rw order (flags_more desk.order.items p
              (λ q. not (slice_index_or desk.numbers.items q 0 == 0)) (λ q. not (slice_index_or new.numbers.items q 0 == 0)) is.taken
              (ap (λ n. not (n == 0)) here ∙ not_zero number some) (λ q other. ap (λ n. not (n == 0)) (others q other)));
          distinct = rw order (distinct_more desk.order.items p is.distinct free);
          begins = rw outcomes (begins_more desk.outcomes.items (kept_of o) is.begins);
          found = found_more;
          few = let few = is.few in let one = kept_one o in rw (order, outcomes) (omega (arith, len, longer, few, one));
          outcomes_room = omega (arith, is.outcomes_room, same, outcomes_room);
          order_room = omega (arith, is.order_room, same, order_room);
        }

-- ---- the row at one index

in_order : (order : List ℕ) (k p : ℕ) → k < length order → p ≡ slice_index_or order k p → list_any (eqb p) order ≡ true
in_order [] k p low at = absurd (omega arith)
in_order (x ∷ xs) zero p low at = ap (λ t. t || list_any (eqb p) xs) (eq-eqb p x at)
in_order (x ∷ xs) (suc k) p low at = ap (λ t. eqb p x || t) (in_order xs k p (omega arith) at) ∙ or-true (eqb p x)

module _ (desk : Inside) (is : IsDesk desk) where
  pub row_low : (shown : Arrived) (k : ℕ) → arrived_of desk ≡ shown → k < length shown.rows → k < length desk.order.items
  row_low shown k view low =
      let row : ℕ → Placed = λ q. (q, outcome_at desk q) in
      omega (arith, low, length-map desk.order.items row, ap (λ d. length d.rows) view)

  -- a place in the order, its number, and what is there
  module _ (k p : ℕ) (low : k < length desk.order.items) (at : p ≡ slice_index_or desk.order.items k p) where
    pub place_low : p < length desk.numbers.items
    place_low = places_below desk is p (in_order desk.order.items k p low at)

    module _ (number : ℕ) (holds : number ≡ slice_index_or desk.numbers.items p number) where
      pub number_some : number ≡ 0 → ⊥
      number_some none = let no = sym (number_free desk is p number place_low holds none) ∙ in_order desk.order.items k p low at in absurd (cc)

      pub number_within : (1 ≤ number) × (number ≤ length desk.outcomes.items)
      number_within = (omega (arith, number_some), number_low desk is p number place_low holds)

      pub row_lies : (o : Outcome) → o ≡ slice_index_or desk.outcomes.items (number - 1) o → slice_get (arrived_of desk).rows k ≡ Some (p, o)
      row_lies o lies =
          row_at (outcome_at desk) desk.order.items k p (slice_get-get_or desk.order.items k p low ∙ ap Some (sym at))
          ∙ ap (λ o. Some (p, o)) (sym (outcome_read desk is p number place_low holds o number_some lies))

-- ---- the missing places

-- the places from this one on begin with it if its number is 0
module _ (numbers : List ℕ) (place : ℕ) (low : place < length numbers) where
  free_left : (free : Bool) → (slice_index_or numbers place 0 == 0) ≡ free
      → free_from place (length numbers - place) numbers
      ≡ cond free (place ∷ free_from (place + 1) (length numbers - (place + 1)) numbers) (free_from (place + 1) (length numbers - (place + 1)) numbers)
  free_left free is =
      let count : length numbers - place ≡ suc (length numbers - (place + 1)) = omega arith in
      let rest = free_from (place + 1) (length numbers - (place + 1)) numbers in
      ap (λ n. free_from place n numbers) count ∙ ap (λ t. cond t (place ∷ rest) rest) is

  pub free_first : slice_index_or numbers place 0 ≡ 0 → free_from place (length numbers - place) numbers ≡ place ∷ free_from (place + 1) (length numbers - (place + 1)) numbers
  free_first none = free_left true (ap (λ n. n == 0) none)

  pub taken_passed : (slice_index_or numbers place 0 ≡ 0 → ⊥) → free_from place (length numbers - place) numbers ≡ free_from (place + 1) (length numbers - (place + 1)) numbers
  taken_passed some = elim (eqb_tells (slice_index_or numbers place 0) 0) [
    | inl e ↦ absurd (some e.1)
    | inr e ↦ free_left false e.0
  ]
