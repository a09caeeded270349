-- The laws of comparisons.
use Rattle.std.proofs.Common.{◌≡◌, ◌==◌, ◌||◌, not, ℕ, zero, suc, ◌+◌, ◌<◌, Bool, true, false, length, List, [], ◌∷◌, ◌++◌, map, filter, refl, sym, ap, subst, ◌∙◌, inl, inr, arith}
use Rattle.std.specs.Prelude.{◌≢◌, ◌≤◌, IsPermutation, count_by, nat_lt}
use Rattle.std.specs.List.{AllPairs, IsDistinct, list_any}
use Rattle.std.proofs.lemmas.Bool.{cases_eq, ne_eqb}
use Rattle.std.proofs.lemmas.Bool.Decides.{nat_tests}
use Rattle.std.proofs.lemmas.Grind.{common_steps}
use Rattle.std.proofs.lemmas.List.Elements.{All-weaker, filter_passes}
use Rattle.std.proofs.lemmas.List.Folds.{list_any-append}
use Rattle.std.proofs.lemmas.List.Sorted.{IsPermutation-append_right, IsPermutation-cons, IsPermutation-middle, IsPermutation-refl, IsPermutation-sym, IsPermutation-trans}
use Rattle.std.proofs.lemmas.List.Kept.{AllPairs-cons, AllPairs-filter}
use Rattle.std.proofs.lemmas.Map.Made.{IsDistinct-from_AllPairs}
use Rattle.std.proofs.lemmas.Map.Views.{any-filter_same}
use Rattle.mimic_trial.specs.Count.{is_failed}
use Rattle.mimic_printer.specs.Json.{Entry}
use Rattle.mimic_printer.specs.Row.{Label}
use Rattle.mimic_events.specs.Key.{same_label}
use Rattle.mimic_events.proofs.Keys.{same_label-decides, same_label-symm}
use Rattle.mimic_events.specs.Readings.{InputRead, is_whole}
use Rattle.mimic_events.specs.declared.ending.Ending.{Ending}
use Rattle.mimic_events.specs.declared.ending.Ending.TheVariants.{Whole, Cut, Failed}
use Rattle.mimic_printer.proofs.EscapeLaws.{lines_have_no_control}
use Rattle.mimic_compare.specs.Classes.{Compared, compared, comparisons, distinct, failures, labels_in}
use Rattle.mimic_compare.specs.Fates.{Fate, fates_with}
use Rattle.mimic_compare.specs.Text.{place_of, same_class}
use Rattle.mimic_compare.specs.Written.{ArePartitioned, ComparisonLaws, NamesFailures, SaysWorse, found_in, has_title, labels_of, stands_in}
use Rattle.mimic_compare.specs.declared.class.Class.{Class}
use Rattle.mimic_compare.specs.declared.class.Class.TheVariants.{NewFailure, Regressed, Missing}

-- ---- each label once

apart : (labels : List Label) → AllPairs (λ a b. a ≢ b) (distinct labels)
apart [] = λ i j d lt below. absurd (omega arith)
apart (label ∷ labels) =
    let others : Label → Bool = λ other. not (same_label label other) in
    let differs : (other : Label) → others other ≡ true → label ≢ other = λ other kept same. grind (arith, same_label-decides label other) in
    AllPairs-cons (λ a b. a ≢ b) label (filter others (distinct labels))
    (All-weaker (λ other. others other ≡ true) (λ other. label ≢ other) differs (filter others (distinct labels)) (filter_passes others (distinct labels)))
    (AllPairs-filter (λ a b. a ≢ b) others (distinct labels) (apart labels))

pub distinct_stand : (label : Label) (labels : List Label) → stands_in label (distinct labels) ≡ stands_in label labels
distinct_stand label [] = refl
distinct_stand label (first ∷ labels) =
    let others : Label → Bool = λ other. not (same_label first other) in
    let kept : (other : Label) → same_label label other ≡ true → others other ≡ others label = λ other same. grind (arith, same_label-decides label other) in
    grind (arith, any-filter_same (same_label label) others (others label) kept (distinct labels), distinct_stand label labels, same_label-symm first label)

labels_compared : (judged : Bool) (old new : List Entry) (labels : List Label)
    → labels_of (map (λ label. compared judged label (fates_with label old) (fates_with label new)) labels) ≡ labels
labels_compared judged old new [] = refl
labels_compared judged old new (label ∷ labels) = ap (λ (l : List Label). label ∷ l) (labels_compared judged old new labels)

-- ---- classes

abbrev place : Compared → ℕ
place c = place_of c.class

abbrev at_place : ℕ → List Compared → List Compared
at_place k found = filter (λ c. place c == k) found

-- the comparisons at the `n` places from `k` on
abbrev places : ℕ → ℕ → List Compared → List Compared
places k zero found = []
places k (suc n) found = at_place k found ++ places (k + 1) n found

behind : (c : Compared) (k n : ℕ) (found : List Compared) → place c < k → places k n (c ∷ found) ≡ places k n found
behind c k zero found before = refl
behind c k (suc n) found before = grind (arith, nat_tests, behind c (k + 1) n found)

placed : (c : Compared) (k n : ℕ) (found : List Compared) → k ≤ place c → place c < k + n → IsPermutation (c ∷ places k n found) (places k n (c ∷ found))
placed c k zero found from to = absurd (omega arith)
placed c k (suc n) found from to = elim (cases_eq (place c) k) [
  | inl here ↦ grind (arith, nat_tests, behind c (k + 1) n found, IsPermutation-refl)
  | inr other ↦
      let rest = places (k + 1) n found in
      rw (ne_eqb (place c) k other)
      (IsPermutation-trans _ _ _ (IsPermutation-sym _ _ (IsPermutation-middle (at_place k found) c rest))
      (IsPermutation-append_right (at_place k found) (c ∷ rest) (places (k + 1) n (c ∷ found)) (placed c (k + 1) n found (omega arith) (omega arith))))
]

few : (class : Class) → place_of class < 11
few class = grind arith

in_places : (found : List Compared) → IsPermutation found (places 0 11 found)
in_places [] = IsPermutation-refl []
in_places (c ∷ found) =
    IsPermutation-trans (c ∷ found) (c ∷ places 0 11 found) (places 0 11 (c ∷ found)) (IsPermutation-cons c found (places 0 11 found) (in_places found))
    (placed c 0 11 found (omega arith) (few c.class))

partitioned : (judged : Bool) (old new : List Entry) → ArePartitioned judged old new
partitioned judged old new =
    let labels : List Label = labels_in old ++ labels_in new in
    let read : labels_of (comparisons judged old new) ≡ distinct labels = labels_compared judged old new (distinct labels) in
    record {
      once = subst (IsDistinct same_label) (sym read) (IsDistinct-from_AllPairs same_label-decides (distinct labels) (apart labels));
      all = λ label. ap (stands_in label) read ∙ distinct_stand label labels ∙ list_any-append (same_label label) (labels_in old) (labels_in new);
      classes = in_places (comparisons judged old new);
    }

-- ---- the status

some_counted : (p q r : Compared → Bool) (found : List Compared)
    → (nat_lt 0 (count_by p found) || nat_lt 0 (count_by q found) || nat_lt 0 (count_by r found)) ≡ list_any (λ c. p c || q c || r c) found
some_counted p q r [] = refl
some_counted p q r (c ∷ found) = grind (arith, common_steps, some_counted p q r found)

not_whole : (ending : Ending) → has_title ending ≡ false → is_whole ending ≡ false
not_whole (Whole filtered_out nanos) h = absurd (cc)
not_whole (Cut stop) h = refl
not_whole (Failed error) h = refl

says_worse : (old new : InputRead) → SaysWorse old new
says_worse old new = record {
  worse =
      grind (arith, nat_tests, some_counted (λ c. same_class c.class NewFailure) (λ c. same_class c.class Regressed) (λ c. same_class c.class Missing) (found_in old new));
  refused = λ nothing. grind (arith, common_steps, nothing, not_whole old.ending);
}

-- ---- failures

all_failed : (fates : List Fate) → list_any (λ fate. not (is_failed fate.outcome)) fates ≡ false → failures fates ≡ length fates
all_failed [] h = refl
all_failed (fate ∷ fates) h = grind (arith, common_steps, all_failed fates)

some_failed : (fates : List Fate) → list_any (λ fate. is_failed fate.outcome) fates ≡ true → nat_lt 0 (failures fates) ≡ true
some_failed [] h = absurd (cc)
some_failed (fate ∷ fates) h = grind (arith, common_steps, nat_tests, some_failed fates)

names_failures : (judged : Bool) (old new : List Fate) → NamesFailures judged old new
names_failures judged old new = record {
  regressed = λ is. grind (arith, common_steps, nat_tests, all_failed old, is);
  unseen = λ failed. rw (some_failed new failed) refl;
}

pub comparison_laws : ComparisonLaws
comparison_laws = record { partition = partitioned; failures = names_failures; status = says_worse; lines = lines_have_no_control }
