-- Which known failures were met by the rows of reports, and what else the rows say (our own).
use Rattle.std.specs.Prelude.{◌≡◌, ◌⊎◌, Bool, true, false, cond, List, [], ◌∷◌, ◌++◌, filter, map, not, IsPermutation, Option, Some, None}
use Rattle.std.specs.List.{AllByRecursion, flat_map, list_any}
use Rattle.std.specs.Map.{lookup, remove_entry}
use Rattle.std.specs.Option.{is_some, option_or}
use Rattle.mimic_trial.specs.declared.outcome.Outcome.{Outcome}
use Rattle.mimic_trial.specs.declared.outcome.Outcome.TheVariants as outcome
use Rattle.mimic_trial.specs.Count.{is_failed, is_ignored_outcome}
use Rattle.mimic_printer.specs.Json.{Entry}
use Rattle.mimic_events.specs.Key.{Key, any_in, key_in, message_of, same_key}
use Rattle.mimic_expect.specs.Known.{Expected}

-- ---- failures meet expectations, one after another

-- the expectations, each by its key
abbrev pub keyed : List Expected → List (Key × Expected)
keyed expected = map (λ e. (key_in e.entry, e)) expected

-- what a failure meets, of what is left: the first one of its message, and if there is none the first one of any message
abbrev pub meets : {X : Type 0} → List (Key × X) → Entry → Option X
meets left row = option_or (lookup (same_key (key_in row)) left) (lookup (same_key (any_in row)) left)

-- what is left without it
abbrev pub without : {X : Type 0} → List (Key × X) → Entry → List (Key × X)
without left row = cond (is_some (lookup (same_key (key_in row)) left)) (remove_entry (same_key (key_in row)) left)
    (remove_entry (same_key (any_in row)) left)

-- what these failures leave
abbrev pub left_by : {X : Type 0} → List (Key × X) → List Entry → List (Key × X)
left_by left [] = left
left_by left (row ∷ rows) = left_by (without left row) rows

-- the failures that meet nothing
abbrev pub unmet_by : {X : Type 0} → List (Key × X) → List Entry → List Entry
unmet_by left [] = []
unmet_by left (row ∷ rows) =
    cond (is_some (meets left row)) (unmet_by (without left row) rows) (row ∷ unmet_by (without left row) rows)

abbrev pub with_row : {X : Type 0} → Option X → Entry → List (X × Entry) → List (X × Entry)
with_row (Some x) row met = (x, row) ∷ met
with_row None row met = met

-- the others, each with what it meets
abbrev pub met_by : {X : Type 0} → List (Key × X) → List Entry → List (X × Entry)
met_by left [] = []
met_by left (row ∷ rows) = with_row (meets left row) row (met_by (without left row) rows)

-- the failure is what the line says: the same kind and name, and its message, if it says one
pub record Fits (expected : Expected) (row : Entry) : Type 0 where
  pub label : expected.entry.label ≡ row.label
  pub message : (message_of expected.entry.outcome ≡ None) ⊎ (message_of expected.entry.outcome ≡ message_of row.outcome)

-- each expectation is met once or is left, each failure meets one or none, what meets fits, and no failure that meets none fits
-- what is left
pub record IsMatching (expected : List Expected) (failures : List Entry) : Type 0 where
  pub lines : IsPermutation expected (map (λ m. m.0) (met_by (keyed expected) failures)
      ++ map (λ x. x.1) (left_by (keyed expected) failures))
  pub rows : IsPermutation failures (map (λ m. m.1) (met_by (keyed expected) failures) ++ unmet_by (keyed expected) failures)
  pub fit : AllByRecursion (λ m. Fits m.0 m.1) (met_by (keyed expected) failures)
  pub rest : AllByRecursion (λ row. AllByRecursion (λ x. Fits x.1 row → ⊥) (left_by (keyed expected) failures))
      (unmet_by (keyed expected) failures)

-- ---- rows answer what is left

-- for each expectation the first row left with its kind and name
abbrev pub answers : {X : Type 0} → List (Key × X) → List Expected → List (Expected × Option X)
answers rows [] = []
answers rows (e ∷ expected) =
    (e, lookup (same_key (any_in e.entry)) rows) ∷ answers (remove_entry (same_key (any_in e.entry)) rows) expected

-- the rows that are left then
abbrev pub unanswered : {X : Type 0} → List (Key × X) → List Expected → List (Key × X)
unanswered rows [] = rows
unanswered rows (e ∷ expected) = unanswered (remove_entry (same_key (any_in e.entry)) rows) expected

-- ---- what is unexpected

-- a failure, a failure with another message than the line says, and a line whose trial passed or is absent
pub data Finding : Type 0 where
  FailedRow : Entry → Finding
  OtherMessage : Expected → Entry → Finding
  PassedLine : Expected → Finding
  AbsentLine : Expected → Finding

abbrev pub finding_of : Expected → Entry → Outcome → List Finding
finding_of e row (outcome.Failed message) = OtherMessage e row ∷ []
finding_of e row outcome.Ignored = []
finding_of e row other = PassedLine e ∷ []

-- what an expectation and its answer say, by whether all trials are there
abbrev pub fate : Bool → Expected × Option Entry → List Finding
fate are_all (e, Some row) = finding_of e row row.outcome
fate are_all (e, None) = cond are_all (AbsentLine e ∷ []) []

abbrev pub labelled : List Entry → List (Key × Entry)
labelled rows = map (λ row. (any_in row, row)) rows

-- the rows of an outcome that passes the test
abbrev pub rows_with : (Outcome → Bool) → List Entry → List Entry
rows_with test rows = filter (λ row. test row.outcome) rows

abbrev pub has_passed : Outcome → Bool
has_passed outcome.Passed = true
has_passed (outcome.Measured m) = true
has_passed other = false

-- the expectations that no failure meets
abbrev pub left_in : List Expected → List Entry → List Expected
left_in expected rows = map (λ x. x.1) (left_by (keyed expected) (rows_with is_failed rows))

-- the rows that can answer them: first failures that met nothing, then rows that passed, and then ignored ones
abbrev pub others_in : List Expected → List Entry → List Entry
others_in expected rows = unmet_by (keyed expected) (rows_with is_failed rows)
    ++ (rows_with has_passed rows ++ rows_with is_ignored_outcome rows)

-- what lines say with the rows that can answer them, and then the failures that answer none
abbrev pub findings_with : List Expected → List Entry → Bool → List Finding
findings_with left rows are_all = flat_map (fate are_all) (answers (labelled rows) left)
    ++ map FailedRow (rows_with is_failed (map (λ x. x.1) (unanswered (labelled rows) left)))

-- what is unexpected of the rows: first what the lines say that are left, in their order, and then the failures that are left, in
-- theirs
abbrev pub findings : List Expected → List Entry → Bool → List Finding
findings expected rows are_all = findings_with (left_in expected rows) (others_in expected rows) are_all

-- the finding makes the rows unexpected: each does, but if it is lax a line whose trial passed does not
abbrev pub counts : Bool → Finding → Bool
counts lax (PassedLine e) = not lax
counts lax other = true

-- ---- rows that come one by one

-- some known failure has the kind and name of the row
abbrev pub is_known : List Expected → Entry → Bool
is_known expected row = list_any (λ e. same_key (any_in e.entry) (any_in row)) expected

-- the rows whose kind and name some known failure has
abbrev pub known_rows : List Expected → List Entry → List Entry
known_rows expected rows = filter (is_known expected) rows

-- the failures whose kind and name no known failure has
abbrev pub unknown_failures : List Expected → List Entry → List Entry
unknown_failures expected rows = rows_with is_failed (filter (λ row. not (is_known expected row)) rows)

-- what is unexpected, in the order in which it can be said while the rows come: first the failures whose kind and name no known
-- failure has, and then the findings of the other rows
abbrev pub findings_in_turn : List Expected → List Entry → Bool → List Finding
findings_in_turn expected rows are_all =
    map FailedRow (unknown_failures expected rows) ++ findings expected (known_rows expected rows) are_all

-- both say the same findings, each as often, and the same failures meet the same lines
pub record HasSame (expected : List Expected) (rows : List Entry) (are_all : Bool) : Type 0 where
  pub findings : IsPermutation (findings expected rows are_all) (findings_in_turn expected rows are_all)
  pub met : met_by (keyed expected) (rows_with is_failed (known_rows expected rows))
      ≡ met_by (keyed expected) (rows_with is_failed rows)

-- the laws of known failures and rows, whatever they are
pub record ExpectLaws : Type 0 where
  pub matching : (expected : List Expected) (failures : List Entry) → IsMatching expected failures
  pub same : (expected : List Expected) (rows : List Entry) (are_all : Bool) → HasSame expected rows are_all

-- ---- which finding it is

abbrev pub is_failed_row : Finding → Bool
is_failed_row (FailedRow row) = true
is_failed_row other = false

abbrev pub is_other_message : Finding → Bool
is_other_message (OtherMessage e row) = true
is_other_message other = false

abbrev pub is_passed_line : Finding → Bool
is_passed_line (PassedLine e) = true
is_passed_line other = false

abbrev pub is_absent_line : Finding → Bool
is_absent_line (AbsentLine e) = true
is_absent_line other = false
