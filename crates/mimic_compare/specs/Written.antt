-- What a comparison of two reports leaves, and its laws (our own).
use Rattle.std.specs.Prelude.{◌≡◌, ◌↔◌, ◌==◌, ◌&&◌, ◌||◌, ℕ, Bool, true, false, nat_lt, not, is_some, if◌then◌else◌, List, [], length, map, filter, IsPermutation, Option, Result, Ok, Err}
use Rattle.std.specs.List.{IsDistinct, flat_map, list_any}
use Rattle.mimic_trial.specs.Count.{is_failed}
use Rattle.mimic_printer.specs.Json.{Entry}
use Rattle.mimic_printer.specs.Row.{Label}
use Rattle.mimic_printer.specs.EscapeLaws.{HasNoControl}
use Rattle.mimic_printer.specs.Sink.{Put, Shown, Stopped}
use Rattle.mimic_printer.specs.declared.place.Place.TheVariants.{Line}
use Rattle.mimic_printer.specs.declared.sink.OutputFault.{OutputFault}
use Rattle.mimic_printer.specs.declared.sink.OutputFault.TheVariants.{OutOfMemory, Write}
use Rattle.mimic_events.specs.Key.{same_label}
use Rattle.mimic_events.specs.Readings.{InputRead, IsReadOf, has_all, is_whole}
use Rattle.mimic_events.specs.declared.ending.Ending.{Ending}
use Rattle.mimic_events.specs.declared.ending.Ending.TheVariants.{Whole, Cut, Failed}
use Rattle.mimic_compare.specs.Changes.{AreRanked, Change, changes_in}
use Rattle.mimic_compare.specs.Classes.{Compared, class_of, comparisons, labels_in}
use Rattle.mimic_compare.specs.Fates.{Fate}
use Rattle.mimic_compare.specs.Text.{classes, comparison_text, count_of, same_class}
use Rattle.mimic_compare.specs.declared.class.Class.TheVariants.{NewFailure, Regressed, Missing}
use Rattle.mimic_compare.specs.declared.verdict.ComparisonOptions.{ComparisonOptions}
use Rattle.mimic_compare.specs.declared.verdict.ComparisonVerdict.{ComparisonVerdict}

-- ---- what is left

-- the input has the title of a report; of one whose reader failed that isn't known
abbrev pub has_title : Ending → Bool
has_title (Whole filtered_out nanos) = true
has_title (Cut stop) = is_some stop.announced
has_title (Failed error) = false

-- nothing of a report was read: neither a row nor a title
abbrev pub shows_nothing : InputRead → Bool
shows_nothing read = length read.entries == 0 && not (has_title read.ending)

-- what is reported for the kinds and names of both reports: nothing if the old one shows nothing
abbrev pub found_in : InputRead → InputRead → List Compared
found_in old new = if shows_nothing old then []
    else comparisons (has_all old.ending && has_all new.ending) old.entries new.entries

-- what was read of both inputs, and the changes in the order in which they are printed
pub record Comparing {I : Type 0} (remaining : I → Option (List ℕ)) (old new : I) (options : ComparisonOptions) : Type 0 where
  pub before : InputRead
  pub after : InputRead
  pub is_old : IsReadOf (remaining old) before
  pub is_new : IsReadOf (remaining new) after
  pub ranked : List Change
  pub order : AreRanked (changes_in options.slower (found_in before after)) ranked

-- what is written of them: nothing if the old one shows nothing
abbrev pub text_of : {I : Type 0} {remaining : I → Option (List ℕ)} {old new : I} {options : ComparisonOptions}
    → Comparing remaining old new options → List ℕ
text_of {options = options} c = if shows_nothing c.before then []
    else comparison_text options.lists_not_run (found_in c.before c.after) c.ranked

-- the verdict on what was found in inputs that ended so
abbrev pub verdict_on : List Compared → Ending → Ending → ComparisonVerdict
verdict_on found old new = record {
  new_failures = count_of NewFailure found;
  regressed = count_of Regressed found;
  missing = count_of Missing found;
  old = old;
  new = new;
}

abbrev pub verdict_of : InputRead → InputRead → ComparisonVerdict
verdict_of old new = verdict_on (found_in old new) old.ending new.ending

-- with `Ok` the whole text was written, after a write fault a beginning of it, and if memory ran out nothing
abbrev pub LeavesComparison : {I : Type 0} → (I → Option (List ℕ)) → I → I → ComparisonOptions → Shown → Shown
    → Result ComparisonVerdict OutputFault → Type 0
LeavesComparison remaining before after options old new (Ok verdict) = (c : Comparing remaining before after options)
    × Put old new (text_of c) × (verdict ≡ verdict_of c.before c.after)
LeavesComparison remaining before after options old new (Err OutOfMemory) = new ≡ old
LeavesComparison remaining before after options old new (Err (Write fault)) =
    (c : Comparing remaining before after options) × Stopped old new (text_of c)

-- the status of a program: 101 if there is a new failure, or something regressed or is missing, else 1 if an input is no whole
-- report, else 0
abbrev pub status_of : ComparisonVerdict → ℕ
status_of v = if nat_lt 0 v.new_failures || nat_lt 0 v.regressed || nat_lt 0 v.missing then 101
    else (if is_whole v.old && is_whole v.new then 0 else 1)

-- ---- laws

abbrev pub labels_of : List Compared → List Label
labels_of found = map (λ c. c.label) found

-- the kind and the name are among the labels
abbrev pub stands_in : Label → List Label → Bool
stands_in label labels = list_any (same_label label) labels

-- the comparison has each kind and name of the old rows and of the new ones exactly once, and no other, and the classes
-- together have all of them, each once
pub record ArePartitioned (judged : Bool) (old new : List Entry) : Type 0 where
  pub once : IsDistinct same_label (labels_of (comparisons judged old new))
  pub all : (label : Label) → stands_in label (labels_of (comparisons judged old new)) ≡ (stands_in label (labels_in old) || stands_in label (labels_in new))
  pub classes : IsPermutation (comparisons judged old new)
      (flat_map (λ class. filter (λ c. same_class c.class class) (comparisons judged old new)) classes)

-- what regressed has a row in the old report that didn't fail, and what failed of which the old report has no row is a new failure
pub record NamesFailures (judged : Bool) (old new : List Fate) : Type 0 where
  pub regressed : class_of judged old new ≡ Regressed → list_any (λ fate. not (is_failed fate.outcome)) old ≡ true
  pub unseen : list_any (λ fate. is_failed fate.outcome) new ≡ true → class_of judged [] new ≡ NewFailure

-- the kind and the name are a new failure, regressed or are missing
abbrev pub is_worse : Compared → Bool
is_worse c = same_class c.class NewFailure || same_class c.class Regressed || same_class c.class Missing

-- the status is 101 exactly if some kind and name is a new failure, regressed or is missing, and 1 if the old input shows nothing
pub record SaysWorse (old new : InputRead) : Type 0 where
  pub worse : (status_of (verdict_of old new) ≡ 101) ↔ (list_any is_worse (found_in old new) ≡ true)
  pub refused : shows_nothing old ≡ true → status_of (verdict_of old new) ≡ 1

pub record ComparisonLaws : Type 0 where
  pub partition : (judged : Bool) (old new : List Entry) → ArePartitioned judged old new
  pub failures : (judged : Bool) (old new : List Fate) → NamesFailures judged old new
  pub status : (old new : InputRead) → SaysWorse old new
  pub lines : HasNoControl Line
