-- What it means that failures meet expectations: each of either is there once, those that meet fit, and no others would.
use Rattle.std.proofs.Common.{◌≡◌, Bool, true, false, cond, List, [], ◌∷◌, ◌++◌, map, refl, sym, ap, subst, ◌∙◌, inl, inr, arith}
use Rattle.std.specs.Prelude.{IsPermutation, Option, None, Some}
use Rattle.std.specs.List.{AllByRecursion}
use Rattle.std.specs.Map.{lookup, remove_entry}
use Rattle.std.specs.Option.{is_some, option_or}
use Rattle.std.proofs.lemmas.Bool.{cond_both}
use Rattle.std.proofs.lemmas.Map.{NonePasses, none_passes_from_lookup}
use Rattle.std.proofs.lemmas.List.Sorted.{IsPermutation-cons, IsPermutation-middle, IsPermutation-refl, IsPermutation-sym, IsPermutation-trans}
use Rattle.mimic_printer.specs.Json.{Entry}
use Rattle.mimic_events.specs.Key.{Key, any_in, key_in, same_key}
use Rattle.mimic_events.proofs.Keys.{same_key-decides}
use Rattle.mimic_expect.specs.Expect.{Fits, IsMatching, keyed, left_by, meets, met_by, unmet_by, without}
use Rattle.mimic_expect.specs.Known.{Expected}
use Rattle.mimic_expect.proofs.Meeting.{keeps}

abbrev Left : Type 0
Left = List (Key × Expected)

abbrev values : Left → List Expected
values left = map (λ (x : Key × Expected). x.1) left

-- each expectation has its own key
abbrev AreKeyed : Left → Type 0
AreKeyed left = AllByRecursion (λ (x : Key × Expected). x.0 ≡ key_in x.1.entry) left

own_keys : (expected : List Expected) → AreKeyed (keyed expected)
own_keys [] = tt
own_keys (e ∷ expected) = (refl, own_keys expected)

-- ---- what a failure meets and what stays

pub all_but : {X : Type 0} (P : Key × X → Type 0) (test : Key → Bool) (left : List (Key × X)) → AllByRecursion P left → AllByRecursion P (remove_entry test left)
all_but P test [] h = tt
all_but P test (x ∷ left) h = cond_both (test x.0) left (x ∷ remove_entry test left) (AllByRecursion P) (λ _. h.1) (λ _. (h.0, all_but P test left h.1))

pub all_without : (P : Key × Expected → Type 0) (left : Left) (row : Entry) → AllByRecursion P left → AllByRecursion P (without left row)
all_without P left row h =
    cond_both (is_some (lookup (same_key (key_in row)) left)) _ _ (AllByRecursion P)
    (λ _. all_but P (same_key (key_in row)) left h) (λ _. all_but P (same_key (any_in row)) left h)

pub all_left : (P : Key × Expected → Type 0) (left : Left) (rows : List Entry) → AllByRecursion P left → AllByRecursion P (left_by left rows)
all_left P left [] h = h
all_left P left (row ∷ rows) h = all_left P (without left row) rows (all_without P left row h)

taken_out : (test : Key → Bool) (left : Left) (x : Expected) → lookup test left ≡ Some x → IsPermutation (values left) (x ∷ values (remove_entry test left))
taken_out test [] x e = absurd (cc)
taken_out test (y ∷ left) x e = at (test y.0) (taken_out test left x) e
  where
    at : (b : Bool) → (lookup test left ≡ Some x → IsPermutation (values left) (x ∷ values (remove_entry test left))) → cond b (Some y.1) (lookup test left) ≡ Some x
        → IsPermutation (y.1 ∷ values left) (x ∷ values (cond b left (y ∷ remove_entry test left)))
    at true rest e =
        let is : y.1 ≡ x = cc in
        subst (λ (z : Expected). IsPermutation (y.1 ∷ values left) (z ∷ values left)) is (IsPermutation-refl (y.1 ∷ values left))
    at false rest e =
        IsPermutation-trans (y.1 ∷ values left) (y.1 ∷ x ∷ values (remove_entry test left)) (x ∷ y.1 ∷ values (remove_entry test left))
        (IsPermutation-cons y.1 (values left) (x ∷ values (remove_entry test left)) (rest e)) (IsPermutation-middle (y.1 ∷ []) x (values (remove_entry test left)))

own_key : (k : Key) (left : Left) (x : Expected) → AreKeyed left → lookup (same_key k) left ≡ Some x → k ≡ key_in x.entry
own_key k [] x h e = absurd (cc)
own_key k (y ∷ left) x h e = grind (arith, own_key k left x h.1, same_key-decides k y.0, h.0, e)

-- what a failure meets comes out, and fits
record Meets (left : Left) (row : Entry) (x : Expected) : Type 0 where
  out : IsPermutation (values left) (x ∷ values (without left row))
  fits : Fits x row

met : (left : Left) (row : Entry) (x : Expected) → AreKeyed left → meets left row ≡ Some x → Meets left row x
met left row x h e = at (lookup (same_key (key_in row)) left) refl e
  where
    at : (o : Option Expected) → lookup (same_key (key_in row)) left ≡ o → option_or o (lookup (same_key (any_in row)) left) ≡ Some x → Meets left row x
    at (Some y) found e =
        let is : y ≡ x = cc in
        let here : lookup (same_key (key_in row)) left ≡ Some x = found ∙ ap (λ (z : Expected). Some z) is in
        let key = own_key (key_in row) left x h here in
        record {
          out = rw found (taken_out (same_key (key_in row)) left x here);
          fits = record { label = sym (ap (λ (k : Key). k.label) key); message = inr (sym (ap (λ (k : Key). k.message) key)) };
        }
    at None found e =
        let key = own_key (any_in row) left x h e in
        record {
          out = rw found (taken_out (same_key (any_in row)) left x e);
          fits = record { label = sym (ap (λ (k : Key). k.label) key); message = inl (sym (ap (λ (k : Key). k.message) key)) };
        }

-- ---- a failure that meets nothing

none_fits : (left : Left) (row : Entry) → AreKeyed left → NonePasses (same_key (key_in row)) left → NonePasses (same_key (any_in row)) left
    → AllByRecursion (λ (x : Key × Expected). Fits x.1 row → ⊥) left
none_fits [] row h own any = tt
none_fits (y ∷ left) row h own any = (apart, none_fits left row h.1 own.1 any.1)
  where
    is_not : (k : Key) → same_key k y.0 ≡ false → k ≡ key_in y.1.entry → ⊥
    is_not k differs is = let same : same_key k y.0 ≡ true = (same_key-decides k y.0).1 (is ∙ sym h.0) in absurd (cc)

    apart : Fits y.1 row → ⊥
    apart fits = elim fits.message [
      | inl m ↦ is_not (any_in row) any.0 (let l = fits.label in cc)
      | inr m ↦ is_not (key_in row) own.0 (let l = fits.label in cc)
    ]

-- it finds none of its message, and none of any
none_met : (left : Left) (row : Entry) → meets left row ≡ None → (lookup (same_key (key_in row)) left ≡ None) × (lookup (same_key (any_in row)) left ≡ None)
none_met left row e = at (lookup (same_key (key_in row)) left) _ e
  where
    at : (o p : Option Expected) → option_or o p ≡ None → (o ≡ None) × (p ≡ None)
    at None p e = (refl, e)
    at (Some x) p e = absurd (cc)

pub stays : (left : Left) (row : Entry) → meets left row ≡ None → without left row ≡ left
stays left row e =
    let n = none_met left row e in
    rw n.0 (keeps (same_key (any_in row)) left n.1)

-- ---- all failures

pub record Meeting (left : Left) (rows : List Entry) : Type 0 where
  -- each expectation was met once, or is left
  pub expected : IsPermutation (values left) (map (λ (m : Expected × Entry). m.0) (met_by left rows) ++ values (left_by left rows))
  -- each failure met one, or met none
  pub failed : IsPermutation rows (map (λ (m : Expected × Entry). m.1) (met_by left rows) ++ unmet_by left rows)
  -- what met fits
  pub fit : AllByRecursion (λ (m : Expected × Entry). Fits m.0 m.1) (met_by left rows)
  -- no failure that met none fits an expectation that is left
  pub rest : AllByRecursion (λ (row : Entry). AllByRecursion (λ (x : Key × Expected). Fits x.1 row → ⊥) (left_by left rows)) (unmet_by left rows)

pub meeting : (left : Left) (rows : List Entry) → AreKeyed left → Meeting left rows
meeting left [] h = record { expected = IsPermutation-refl (values left); failed = IsPermutation-refl []; fit = tt; rest = tt }
meeting left (row ∷ rows) h =
    at (meets left row) refl (meeting (without left row) rows (all_without (λ (x : Key × Expected). x.0 ≡ key_in x.1.entry) left row h))
  where
    at : (o : Option Expected) → meets left row ≡ o → Meeting (without left row) rows → Meeting left (row ∷ rows)
    at (Some x) e rest =
        let m = met left row x h e in
        record {
          expected = rw e (IsPermutation-trans _ (x ∷ values (without left row)) _ m.out (IsPermutation-cons x _ _ rest.expected));
          failed = rw e (IsPermutation-cons row rows _ rest.failed);
          fit = rw e (m.fits, rest.fit);
          rest = rw e rest.rest;
        }
    at None e rest =
        let w = stays left row e in
        let n = none_met left row e in
        let rows_met = map (λ (m : Expected × Entry). m.1) (met_by (without left row) rows) in
        let rows_unmet = unmet_by (without left row) rows in
        let Apart : Key × Expected → Type 0 = λ x. Fits x.1 row → ⊥ in
        record {
          expected = rw (e, w) (rw w at rest.expected);
          failed = rw e (IsPermutation-trans (row ∷ rows) (row ∷ (rows_met ++ rows_unmet)) _
              (IsPermutation-cons row rows _ rest.failed) (IsPermutation-sym _ _ (IsPermutation-middle rows_met row rows_unmet)));
          fit = rw e rest.fit;
          rest = rw e (all_left Apart (without left row) rows (all_without Apart left row (none_fits left row h (none_passes_from_lookup _ left n.0) (none_passes_from_lookup _ left n.1))), rest.rest);
        }

values_keyed : (expected : List Expected) → values (keyed expected) ≡ expected
values_keyed [] = refl
values_keyed (e ∷ expected) = ap (λ (l : List Expected). e ∷ l) (values_keyed expected)

pub matching_law : (expected : List Expected) (failures : List Entry) → IsMatching expected failures
matching_law expected failures =
    let m = meeting (keyed expected) failures (own_keys expected) in
    record {
      lines = subst (λ (l : List Expected). IsPermutation l (map (λ (m : Expected × Entry). m.0) (met_by (keyed expected) failures) ++ values (left_by (keyed expected) failures))) (values_keyed expected) m.expected;
      rows = m.failed;
      fit = m.fit;
      rest = m.rest;
    }
