-- The same findings, whether all rows are judged together or those alone whose kind and name some known failure has.
use Rattle.std.proofs.Common.{◌≡◌, ◌||◌, ℕ, Bool, true, false, not, List, [], ◌∷◌, ◌++◌, map, refl, sym, ap, ap₂, subst, ◌∙◌, append_assoc, append-nil, arith}
use Rattle.std.specs.Prelude.{IsPermutation, Option, None, filter}
use Rattle.std.specs.List.{AllByRecursion, flat_map, list_any}
use Rattle.std.specs.Map.{lookup, remove_entry}
use Rattle.std.specs.Option.{is_some, option_or}
use Rattle.std.proofs.lemmas.Bool.{cond_both}
use Rattle.std.proofs.lemmas.List.{map-append}
use Rattle.std.proofs.lemmas.List.Elements.{filter-append}
use Rattle.std.proofs.lemmas.List.Folds.{list_any-append}
use Rattle.std.proofs.lemmas.List.Sorted.{IsPermutation-append_left, IsPermutation-append_right, IsPermutation-append_comm, IsPermutation-filter_both, IsPermutation-map, IsPermutation-trans}
use Rattle.mimic_trial.specs.declared.outcome.Outcome.{Outcome}
use Rattle.mimic_trial.specs.declared.outcome.Outcome.TheVariants.{Failed, Ignored, Measured, Passed}
use Rattle.mimic_trial.specs.Count.{is_failed, is_ignored_outcome}
use Rattle.mimic_printer.specs.Json.{Entry}
use Rattle.mimic_events.specs.Key.{Key, any_in, key_in, same_key}
use Rattle.mimic_events.proofs.Keys.{same_key-decides}
use Rattle.mimic_expect.specs.JudgedRows.{matters}
use Rattle.mimic_expect.specs.Expect.{ExpectLaws, FailedRow, Finding, HasSame, answers, fate, findings, has_passed, is_known, keyed, known_rows, labelled, left_by, left_in, meets, met_by, others_in, rows_with, unanswered, unknown_failures, unmet_by, without}
use Rattle.mimic_expect.specs.Known.{Expected}
use Rattle.mimic_expect.proofs.Laws.{all_left, all_without, matching_law, stays}

-- ---- filters

module _ {X : Type 0} (p q : X → Bool) where
  filter_swap : (xs : List X) → filter p (filter q xs) ≡ filter q (filter p xs)
  filter_swap [] = refl
  filter_swap (x ∷ xs) = grind (arith, filter_swap xs)

  filter_kept : ((x : X) → q x ≡ true → p x ≡ true) → (xs : List X) → filter p (filter q xs) ≡ filter q xs
  filter_kept agree [] = refl
  filter_kept agree (x ∷ xs) = grind (arith, filter_kept agree xs, agree x)

  filter_none : ((x : X) → q x ≡ true → p x ≡ false) → (xs : List X) → filter p (filter q xs) ≡ []
  filter_none apart [] = refl
  filter_none apart (x ∷ xs) = grind (arith, filter_none apart xs, apart x)

pub filter_mapped : {X Y : Type 0} (p : Y → Bool) (f : X → Y) (xs : List X) → filter p (map f xs) ≡ map f (filter (λ x. p (f x)) xs)
filter_mapped p f [] = refl
filter_mapped p f (x ∷ xs) = grind (arith, filter_mapped p f xs)

or_true : (a : Bool) → (a || true) ≡ true
or_true true = refl
or_true false = refl

twice_not : (b : Bool) → b ≡ not (not b)
twice_not true = refl
twice_not false = refl

-- ---- known kinds and names

abbrev Left : Type 0
Left = List (Key × Expected)

abbrev pair_row : Key × Entry → Entry
pair_row x = x.1

module _ (expected : List Expected) where
  -- some known failure has the kind and name of the key
  abbrev knows_in : List Expected → Key → Bool
  knows_in all key = list_any (λ (e : Expected). same_key (any_in e.entry) (record { label = key.label; message = None })) all

  abbrev knows : Key → Bool
  knows key = knows_in expected key

  abbrev has : Entry → Bool
  has row = is_known expected row

  abbrev lacks : Entry → Bool
  lacks row = not (is_known expected row)

  abbrev Covers : List Expected → Key × Expected → Type 0
  Covers all x = (knows_in all x.0 ≡ true) × (knows_in all (any_in x.1.entry) ≡ true)

  covered_in : (done rest : List Expected) → AllByRecursion (Covers (done ++ rest)) (keyed rest)
  covered_in done [] = tt
  covered_in done (e ∷ rest) =
      let test : Expected → Bool = λ (f : Expected). same_key (any_in f.entry) (any_in e.entry) in
      let own : test e ≡ true = (same_key-decides (any_in e.entry) (any_in e.entry)).1 refl in
      let here : list_any test (done ++ e ∷ rest) ≡ true = rw (list_any-append, own) (or_true (list_any test done)) in
      ((here, here), subst (λ (l : List Expected). AllByRecursion (Covers l) (keyed rest)) (append_assoc done (e ∷ []) rest) (covered_in (done ++ e ∷ []) rest))

  covered : AllByRecursion (Covers expected) (keyed expected)
  covered = covered_in [] expected

  none : (k : Key) (left : Left) → knows k ≡ false → AllByRecursion (Covers expected) left → lookup (same_key k) left ≡ None
  none k [] n h = refl
  none k (x ∷ left) n h = grind (arith, none k left n h.1, same_key-decides k x.0, h.0.0, n)

  meets_none : (left : Left) (row : Entry) → has row ≡ false → AllByRecursion (Covers expected) left → meets left row ≡ None
  meets_none left row n h = ap₂ (λ (a b : Option Expected). option_or a b) (none (key_in row) left n h) (none (any_in row) left n h)

  -- ---- failures meet lines

  record Splits (left : Left) (rows : List Entry) : Type 0 where
    met : met_by left (filter has rows) ≡ met_by left rows
    stay : left_by left (filter has rows) ≡ left_by left rows
    unmet : unmet_by left (filter has rows) ≡ filter has (unmet_by left rows)
    others : filter lacks (unmet_by left rows) ≡ filter lacks rows

  splits : (left : Left) (rows : List Entry) → AllByRecursion (Covers expected) left → Splits left rows
  splits left [] h = record { met = refl; stay = refl; unmet = refl; others = refl }
  splits left (row ∷ rows) h = at (has row) refl (splits (without left row) rows (all_without (Covers expected) left row h)) (splits left rows h)
    where
      at : (b : Bool) → has row ≡ b → Splits (without left row) rows → Splits left rows → Splits left (row ∷ rows)
      at true e rest other = record {
        met = rw (e, rest.met) refl;
        stay = rw (e, rest.stay) refl;
        unmet = grind (arith, e, rest.unmet);
        others = grind (arith, e, rest.others);
      }
      at false e known rest =
          let m = meets_none left row e h in
          let w = stays left row m in
          record {
            met = rw (e, m, w) rest.met;
            stay = rw (e, w) rest.stay;
            unmet = rw (e, m, w) (rw e rest.unmet);
            others = rw (m, w, e) (rw rest.others refl);
          }

  -- ---- rows answer lines

  abbrev key_has : Key × Entry → Bool
  key_has x = knows x.0

  abbrev key_lacks : Key × Entry → Bool
  key_lacks x = not (knows x.0)

  module _ (k : Key) (known : knows k ≡ true) where
    alike : (j : Key) → same_key k j ≡ true → knows j ≡ true
    alike j same = ap knows (sym ((same_key-decides k j).0 same)) ∙ known

    untouched : (items : List (Key × Entry)) → filter key_lacks (remove_entry (same_key k) items) ≡ filter key_lacks items
    untouched [] = refl
    untouched (x ∷ items) = grind (arith, untouched items, alike x.0)

  abbrev AreKnown : List Expected → Type 0
  AreKnown left = AllByRecursion (λ (e : Expected). knows (any_in e.entry) ≡ true) left

  others_stay : (items : List (Key × Entry)) (left : List Expected) → AreKnown left → filter key_lacks (unanswered items left) ≡ filter key_lacks items
  others_stay items [] h = refl
  others_stay items (e ∷ left) h = others_stay (remove_entry (same_key (any_in e.entry)) items) left h.1 ∙ untouched (any_in e.entry) h.0 items

  -- a test that each key with a known kind and name passes
  module _ (p : Key × Entry → Bool) (passes : (x : Key × Entry) → knows x.0 ≡ true → p x ≡ true) where
    module _ (k : Key) (known : knows k ≡ true) where
      answer_passes : (x : Key × Entry) → same_key k x.0 ≡ true → p x ≡ true
      answer_passes x e = passes x (alike k known x.0 e)

      looked_up : (items : List (Key × Entry)) → lookup (same_key k) (filter p items) ≡ lookup (same_key k) items
      looked_up [] = refl
      looked_up (x ∷ items) = grind (arith, looked_up items, answer_passes x)

      removed : (items : List (Key × Entry)) → remove_entry (same_key k) (filter p items) ≡ filter p (remove_entry (same_key k) items)
      removed [] = refl
      removed (x ∷ items) = grind (arith, removed items, answer_passes x)

    record Answered (items : List (Key × Entry)) (left : List Expected) : Type 0 where
      same : answers (filter p items) left ≡ answers items left
      rest : unanswered (filter p items) left ≡ filter p (unanswered items left)

    answered : (items : List (Key × Entry)) (left : List Expected) → AreKnown left → Answered items left
    answered items [] h = record { same = refl; rest = refl }
    answered items (e ∷ left) h =
        let k = any_in e.entry in
        let next = answered (remove_entry (same_key k) items) left h.1 in
        let out = removed k h.0 items in
        record { same = rw (looked_up k h.0 items, out, next.same) refl; rest = rw (out, next.rest) refl }

  lines_known : (left : Left) → AllByRecursion (Covers expected) left → AreKnown (map (λ (x : Key × Expected). x.1) left)
  lines_known [] h = tt
  lines_known (x ∷ left) h = (h.0.1, lines_known left h.1)

  left_known : (rows : List Entry) → AreKnown (left_in expected rows)
  left_known rows = lines_known _ (all_left (Covers expected) (keyed expected) (rows_with is_failed rows) covered)

-- ---- the rows of an outcome

no_failed : (test : Outcome → Bool) → ((m : Option (List ℕ)) → test (Failed m) ≡ false) → (o : Outcome) → test o ≡ true → is_failed o ≡ false
no_failed test never Passed e = refl
no_failed test never (Failed m) e = absurd (let n = never m in cc)
no_failed test never Ignored e = refl
no_failed test never (Measured m) e = refl

rows_of_pairs : (rows : List Entry) → map pair_row (labelled rows) ≡ rows
rows_of_pairs [] = refl
rows_of_pairs (row ∷ rows) = ap (λ (l : List Entry). row ∷ l) (rows_of_pairs rows)

-- ---- all together

module _ (expected : List Expected) (rows : List Entry) (are_all : Bool) where
  abbrev failures : List Entry
  failures = rows_with is_failed rows

  abbrev others : List Entry
  others = others_in expected rows

  abbrev left : List Expected
  left = left_in expected rows

  abbrev items : List (Key × Entry)
  items = unanswered (labelled others) left

  abbrev pair_failed : Key × Entry → Bool
  pair_failed x = is_failed x.1.outcome

  abbrev failed : List (Key × Entry)
  failed = filter pair_failed items

  known_with : (test : Outcome → Bool) → rows_with test (known_rows expected rows) ≡ filter (has expected) (rows_with test rows)
  known_with test = filter_swap (λ (row : Entry). test row.outcome) (has expected) rows

  split : Splits expected (keyed expected) failures
  split = splits expected (keyed expected) failures (covered expected)

  known_left : left_in expected (known_rows expected rows) ≡ left
  known_left = ap (λ (l : Left). map (λ (x : Key × Expected). x.1) l) (ap (left_by (keyed expected)) (known_with is_failed) ∙ split.stay)

  known_others : others_in expected (known_rows expected rows) ≡ filter (has expected) others
  known_others = rw (known_with is_failed, split.unmet, known_with has_passed, known_with is_ignored_outcome) (simp filter-append)

  known_items : labelled (filter (has expected) others) ≡ filter (key_has expected) (labelled others)
  known_items = sym (filter_mapped (key_has expected) (λ (row : Entry). (any_in row, row)) others)

  answer : Answered expected (key_has expected) (λ x e. e) (labelled others) left
  answer = answered expected (key_has expected) (λ x e. e) (labelled others) left (left_known expected rows)

  -- the failures that are left of the rows with a known kind and name
  known_failed : rows_with is_failed (map pair_row (filter (key_has expected) items)) ≡ map pair_row (filter (key_has expected) failed)
  known_failed =
      filter_mapped (λ (row : Entry). is_failed row.outcome) pair_row (filter (key_has expected) items)
      ∙ ap (map pair_row) (filter_swap pair_failed (key_has expected) items)

  -- and of the others
  none_of : (test : Outcome → Bool) → ((m : Option (List ℕ)) → test (Failed m) ≡ false) → rows_with is_failed (filter (lacks expected) (rows_with test rows)) ≡ []
  none_of test never =
      filter_swap (λ (row : Entry). is_failed row.outcome) (lacks expected) (rows_with test rows)
      ∙ ap (filter (lacks expected)) (filter_none (λ (row : Entry). is_failed row.outcome) (λ (row : Entry). test row.outcome) (λ row. no_failed test never row.outcome) rows)

  lacking_failed : rows_with is_failed (filter (lacks expected) others) ≡ unknown_failures expected rows
  lacking_failed =
      let fails : Entry → Bool = λ (row : Entry). is_failed row.outcome in
      simp filter-append (rw (
        split.others,
        none_of has_passed (λ m. refl),
        none_of is_ignored_outcome (λ m. refl),
        append-nil,
        filter_swap fails (lacks expected) failures,
        filter_kept fails fails (λ row e. e) rows,
      ) (filter_swap (lacks expected) fails rows))

  other_failed : map pair_row (filter (key_lacks expected) failed) ≡ unknown_failures expected rows
  other_failed =
      rw (
        filter_swap (key_lacks expected) pair_failed items,
        others_stay expected (labelled others) left (left_known expected rows),
        ← filter_mapped (λ (row : Entry). is_failed row.outcome) pair_row (filter (key_lacks expected) (labelled others)),
        filter_mapped (key_lacks expected) (λ (row : Entry). (any_in row, row)) others,
        rows_of_pairs (filter (lacks expected) others),
      ) lacking_failed

  all_failed : IsPermutation (map pair_row failed) (unknown_failures expected rows ++ map pair_row (filter (key_has expected) failed))
  all_failed =
      rw (← other_failed, ← map-append pair_row (filter (key_lacks expected) failed) (filter (key_has expected) failed))
      (IsPermutation-map pair_row failed _ (IsPermutation-filter_both (key_lacks expected) (key_has expected) (λ x. twice_not (knows expected x.0)) failed))

  abbrev said : List Finding
  said = flat_map (fate are_all) (answers (labelled others) left)

  known_findings : findings expected (known_rows expected rows) are_all ≡ said ++ map FailedRow (map pair_row (filter (key_has expected) failed))
  known_findings = rw (known_left, known_others, known_items, answer.same, answer.rest, known_failed) refl

  all_findings : findings expected rows are_all ≡ said ++ map FailedRow (map pair_row failed)
  all_findings = ap (λ (r : List Entry). said ++ map FailedRow r) (filter_mapped (λ (row : Entry). is_failed row.outcome) pair_row items)

  pub has_same : HasSame expected rows are_all
  has_same =
      let first = map FailedRow (unknown_failures expected rows) in
      let last = map FailedRow (map pair_row (filter (key_has expected) failed)) in
      let shuffled : IsPermutation (map FailedRow (map pair_row failed)) (first ++ last) =
      rw (← map-append FailedRow (unknown_failures expected rows) (map pair_row (filter (key_has expected) failed)))
      (IsPermutation-map FailedRow (map pair_row failed) _ all_failed) in
      let turned : IsPermutation (said ++ (first ++ last)) (first ++ (said ++ last)) =
      rw (← append_assoc said first last, ← append_assoc first said last)
      (IsPermutation-append_left last (said ++ first) (first ++ said) (IsPermutation-append_comm said first)) in
      record {
        findings = rw (all_findings, known_findings) (IsPermutation-trans _ (said ++ (first ++ last)) _ (IsPermutation-append_right said _ _ shuffled) turned);
        met = rw (known_with is_failed) split.met;
      }

-- ---- the rows that matter

or_left : (a b : Bool) → a ≡ true → (a || b) ≡ true
or_left true b e = refl
or_left false b e = absurd (cc)

or_right : (a b : Bool) → b ≡ true → (a || b) ≡ true
or_right a b e = ap (λ (c : Bool). a || c) e ∙ or_true a

pub all_unmet : (P : Entry → Type 0) (left : Left) (rows : List Entry) → AllByRecursion P rows → AllByRecursion P (unmet_by left rows)
all_unmet P left [] h = tt
all_unmet P left (row ∷ rows) h =
    let rest = all_unmet P (without left row) rows h.1 in
    cond_both (is_some (meets left row)) _ (row ∷ unmet_by (without left row) rows) (AllByRecursion P) (λ _. rest) (λ _. (h.0, rest))

unmet_pass : (p q : Entry → Bool) → ((row : Entry) → q row ≡ true → p row ≡ true) → (left : Left) (rows : List Entry) → filter p (unmet_by left (filter q rows)) ≡ unmet_by left (filter q rows)
unmet_pass p q agree left [] = refl
unmet_pass p q agree left (row ∷ rows) = grind (arith, unmet_pass p q agree left rows, unmet_pass p q agree (without left row) rows, agree row)

module _ (expected : List Expected) where
  abbrev pair_matters : Key × Entry → Bool
  pair_matters x = knows expected x.0 || is_failed x.1.outcome

  module _ (rows : List Entry) (are_all : Bool) where
    abbrev some : List Entry
    some = filter (matters expected) rows

    abbrev fails : Entry → Bool
    fails row = is_failed row.outcome

    fails_matter : (row : Entry) → fails row ≡ true → matters expected row ≡ true
    fails_matter row e = or_right (is_known expected row) (fails row) e

    with_some : (test : Outcome → Bool) → rows_with test some ≡ filter (matters expected) (rows_with test rows)
    with_some test = filter_swap (λ (row : Entry). test row.outcome) (matters expected) rows

    same_failures : rows_with is_failed some ≡ rows_with is_failed rows
    same_failures = with_some is_failed ∙ filter_kept (matters expected) fails fails_matter rows

    same_left : left_in expected some ≡ left_in expected rows
    same_left = ap (λ (f : List Entry). map (λ (x : Key × Expected). x.1) (left_by (keyed expected) f)) same_failures

    same_unmet : filter (matters expected) (unmet_by (keyed expected) (rows_with is_failed rows)) ≡ unmet_by (keyed expected) (rows_with is_failed rows)
    same_unmet = unmet_pass (matters expected) fails fails_matter (keyed expected) rows

    some_others : others_in expected some ≡ filter (matters expected) (others_in expected rows)
    some_others =
        rw (same_failures, with_some has_passed, with_some is_ignored_outcome)
        (sym (filter-append (matters expected) (unmet_by (keyed expected) (rows_with is_failed rows)) (rows_with has_passed rows ++ rows_with is_ignored_outcome rows)
        ∙ ap₂ (λ (a b : List Entry). a ++ b) same_unmet (filter-append (matters expected) (rows_with has_passed rows) (rows_with is_ignored_outcome rows))))

    some_items : labelled (others_in expected some) ≡ filter pair_matters (labelled (others_in expected rows))
    some_items = ap labelled some_others ∙ sym (filter_mapped pair_matters (λ (row : Entry). (any_in row, row)) (others_in expected rows))

    failed_pairs : (items : List (Key × Entry)) → rows_with is_failed (map pair_row (filter pair_matters items)) ≡ rows_with is_failed (map pair_row items)
    failed_pairs items =
        let pair_fails : Key × Entry → Bool = λ x. is_failed x.1.outcome in
        filter_mapped fails pair_row (filter pair_matters items)
        ∙ (ap (map pair_row) (filter_swap pair_fails pair_matters items
        ∙ filter_kept pair_matters pair_fails (λ x e. or_right (knows expected x.0) (is_failed x.1.outcome) e) items) ∙ sym (filter_mapped fails pair_row items))

    pub some_findings : findings expected some are_all ≡ findings expected rows are_all
    some_findings =
        let left = left_in expected rows in
        let items = labelled (others_in expected rows) in
        let m = answered expected pair_matters (λ x. or_left (knows expected x.0) (is_failed x.1.outcome)) items left (left_known expected rows) in
        rw (same_left, some_items, m.same, m.rest, failed_pairs (unanswered items left)) refl

pub expect_laws : ExpectLaws
expect_laws = record { matching = matching_law; same = has_same }
