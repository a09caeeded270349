-- What is written at the end, and what it says.
use Rattle.std.proofs.Common.{◌≡◌, ◌||◌, inl, inr, ℕ, ◌+◌, ◌<◌, ◌≤◌, suc, Bool, false, cond, List, [], ◌∷◌, ◌++◌, length, map, Option, Result, refl, sym, ap, ap₂, subst, ◌∙◌, append_assoc, arith}
use Rattle.std.specs.Prelude.{count_by, nat_lt}
use Rattle.std.specs.List.{AllZip, flat_map, list_all, list_any}
use Rattle.std.specs.Result.{IsErrAnd}
use Rattle.std.proofs.lemmas.Bool.Decides.{nat_tests}
use Rattle.std.proofs.lemmas.List.Concat.{flat_map-append}
use Rattle.std.proofs.lemmas.List.Folds.{flat_map-map, list_all-map, list_any-append}
use Rattle.std.proofs.lemmas.List.Sorted.{list_any-IsPermutation}
use Rattle.std.proofs.lemmas.List.Sums.{sum_by-append, sum_by-cons}
use Rattle.mimic_trial.specs.Count.{is_failed}
use Rattle.mimic_printer.specs.Json.{Entry}
use Rattle.mimic_printer.specs.Sink.{Put, Shown, Stopped}
use Rattle.mimic_printer.specs.declared.sink.WriteFault.{WriteFault}
use Rattle.mimic_events.specs.Readings.{InputRead, IsReadOf, has_all}
use Rattle.mimic_events.specs.declared.ending.Ending.{Ending}
use Rattle.mimic_expect.specs.Expect.{FailedRow, Finding, counts, findings, findings_in_turn, is_absent_line, is_failed_row, is_other_message, is_passed_line, keyed, known_rows, met_by, rows_with, unknown_failures}
use Rattle.mimic_expect.specs.FindingText.{finding_text, numbers_text, rows_text, running_text, unknown_text}
use Rattle.mimic_expect.specs.JudgedRows.{Judged, Judges}
use Rattle.mimic_expect.specs.JudgementText.{count_in, finding_read, judgement_numbers, judgement_text}
use Rattle.mimic_expect.specs.Known.{Expected}
use Rattle.mimic_expect.specs.KnownText.{StoppedBy}
use Rattle.mimic_expect.specs.Verdict.{AreBegun, LeavesVerdict, ends_of, have_all, rows_of}
use Rattle.mimic_expect.specs.declared.judgement.Judgement.{Judgement}
use Rattle.mimic_expect.specs.declared.judgement.Unexpected.{Unexpected}
use Rattle.mimic_printer.specs.declared.sink.OutputFault.{OutputFault}
use Rattle.mimic_printer.specs.declared.sink.OutputFault.TheVariants.{OutOfMemory, Write as WriteFailed}
use Rattle.mimic_expect.specs.declared.options.ExpectOptions.{ExpectOptions}
use Rattle.mimic_expect.specs.declared.options.Lines.{Lines}
use Rattle.mimic_expect.specs.declared.verdict.ExpectationVerdict.{ExpectationVerdict}
use Rattle.mimic_events.proofs.Results.{at_fault}
use Rattle.mimic_expect.proofs.Judged.{lines}
use Rattle.mimic_expect.proofs.Strangers.{has_same}

-- ---- the lines of a judgement

abbrev line_of : Lines → Unexpected → List ℕ
line_of form found = finding_text form (finding_read found)

-- ---- counts

count-cons : (test : Finding → Bool) (x : Finding) (xs : List Finding) → count_by test (x ∷ xs) ≡ cond (test x) 1 0 + count_by test xs
count-cons test x xs = sum_by-cons (λ (y : Finding). cond (test y) 1 0) x xs

count-append : (test : Finding → Bool) (xs ys : List Finding) → count_by test (xs ++ ys) ≡ count_by test xs + count_by test ys
count-append test xs ys = sum_by-append (λ (y : Finding). cond (test y) 1 0) xs ys

count_read : (test : Finding → Bool) (items : List Unexpected) → count_by (λ (found : Unexpected). test (finding_read found)) items ≡ count_by test (map finding_read items)
count_read test [] = refl
count_read test (x ∷ items) =
    let here = sum_by-cons (λ (y : Unexpected). cond (test (finding_read y)) 1 0) x items in
    omega (arith, here, count-cons test (finding_read x) (map finding_read items), count_read test items)

failures_counted : (rows : List Entry) → count_by is_failed_row (map FailedRow rows) ≡ length rows
failures_counted [] = refl
failures_counted (row ∷ rows) = omega (arith, count-cons is_failed_row (FailedRow row) (map FailedRow rows), failures_counted rows)

none_counted : (test : Finding → Bool) → ((row : Entry) → test (FailedRow row) ≡ false) → (rows : List Entry) → count_by test (map FailedRow rows) ≡ 0
none_counted test never [] = refl
none_counted test never (row ∷ rows) =
    let here : cond (test (FailedRow row)) (suc 0) 0 ≡ 0 = ap (λ (b : Bool). cond b (suc 0) 0) (never row) in
    omega (arith, count-cons test (FailedRow row) (map FailedRow rows), none_counted test never rows, here)

any_read : (lax : Bool) (items : List Unexpected) → list_any (λ (u : Unexpected). counts lax (finding_read u)) items ≡ list_any (counts lax) (map finding_read items)
any_read lax [] = refl
any_read lax (x ∷ items) = ap (λ (b : Bool). counts lax (finding_read x) || b) (any_read lax items)

any_failed : (lax : Bool) (rows : List Entry) → list_any (counts lax) (map FailedRow rows) ≡ nat_lt 0 (length rows)
any_failed lax [] = refl
any_failed lax (row ∷ rows) = grind (arith, nat_tests)

-- ---- all that is written

module _ (known : List Expected) (new : Judged) (rows : List Entry) (are_all : Bool) (count : ℕ) (judgement : Judgement) where
  abbrev failures : List Entry
  failures = unknown_failures known rows

  abbrev rest : List Finding
  rest = findings known (known_rows known rows) are_all

  abbrev Says : Type 0
  Says = map finding_read judgement.unexpected.items ≡ findings new.known new.rows are_all

  module _ {form : Lines} {s t : Shown} (judged : Judges form (record { known = known; rows = [] }) new rows count s t) where
    counted : count ≡ length failures
    counted = judged.counted

    module _ (says : Says) where
      found : map finding_read judgement.unexpected.items ≡ rest
      found = says ∙ ap₂ (λ (k : List Expected) (l : List Entry). findings k l are_all) judged.known judged.kept

      count_of : (test : Finding → Bool) → count_in test judgement ≡ count_by test rest
      count_of test = count_read test judgement.unexpected.items ∙ ap (count_by test) found

      none_of : (test : Finding → Bool) → ((row : Entry) → test (FailedRow row) ≡ false) → count_in test judgement ≡ count_by test (findings_in_turn known rows are_all)
      none_of test never = omega (arith, count_of test, none_counted test never failures, count-append test (map FailedRow failures) rest)

      all_failed : count + count_in is_failed_row judgement ≡ count_by is_failed_row (findings_in_turn known rows are_all)
      all_failed = omega (arith, counted, count_of is_failed_row, failures_counted failures, count-append is_failed_row (map FailedRow failures) rest)

      numbers : judgement.met ≡ length (met_by (keyed new.known) (rows_with is_failed new.rows))
          → judgement_numbers judgement count ≡ numbers_text (length (met_by (keyed known) (rows_with is_failed rows))) (findings_in_turn known rows are_all)
      numbers met =
          let is : judgement.met ≡ length (met_by (keyed known) (rows_with is_failed rows)) =
          met ∙ (ap₂ (λ (k : List Expected) (l : List Entry). length (met_by (keyed k) (rows_with is_failed l))) judged.known judged.kept ∙ ap length (has_same known rows are_all).met) in
          rw (is, all_failed, none_of is_passed_line (λ row. refl), none_of is_other_message (λ row. refl), none_of is_absent_line (λ row. refl)) refl

      all_text : (ends : List Ending) → judgement.met ≡ length (met_by (keyed new.known) (rows_with is_failed new.rows))
          → lines form failures ++ judgement_text form judgement count ends ≡ rows_text form known rows ends are_all
      all_text ends met =
          let shown : flat_map (finding_text form) (findings_in_turn known rows are_all) ≡ lines form failures ++ flat_map (line_of form) judgement.unexpected.items =
          flat_map-append (finding_text form) (map FailedRow failures) rest
          ∙ ap (λ (l : List ℕ). lines form failures ++ l) (ap (flat_map (finding_text form)) (sym found) ∙ flat_map-map (finding_text form) finding_read judgement.unexpected.items) in
          sym (append_assoc (lines form failures) (flat_map (line_of form) judgement.unexpected.items) (flat_map (running_text form) ends ++ judgement_numbers judgement count))
          ∙ ap₂ (λ (a b : List ℕ). a ++ (flat_map (running_text form) ends ++ b)) (sym shown) (numbers met)

      module _ (lax : Bool) where
        any_in_turn : list_any (counts lax) (findings known rows are_all) ≡ (list_any (counts lax) (map FailedRow failures) || list_any (counts lax) rest)
        any_in_turn =
            list_any-IsPermutation (counts lax) (findings known rows are_all) (findings_in_turn known rows are_all) (has_same known rows are_all).findings
            ∙ list_any-append (counts lax) (map FailedRow failures) rest

        pub some_counts : 0 < count → nat_lt 0 count ≡ list_any (counts lax) (findings known rows are_all)
        some_counts lt = rw (any_in_turn, any_failed lax failures, ← counted) (grind (arith, nat_tests))

        pub rest_counts : (b : Bool) → count ≤ 0 → b ≡ list_any (λ (u : Unexpected). counts lax (finding_read u)) judgement.unexpected.items → b ≡ list_any (counts lax) (findings known rows are_all)
        rest_counts b le e = rw (any_in_turn, any_failed lax failures, ← counted, e, any_read lax judgement.unexpected.items, found) (grind (arith, nat_tests))

-- ---- what is left

module _ {I : Type 0} (remaining : I → Option (List ℕ)) (expected : List Expected) (inputs : List I) (options : ExpectOptions) (old new : Shown) (result : Result ExpectationVerdict OutputFault) where
  -- a fault in what is written of all inputs
  pub write_left : (error : WriteFault) (read : List InputRead) → IsErrAnd result (λ fault. fault ≡ WriteFailed error) → AllZip (λ input r. IsReadOf (remaining input) r) inputs read
      → Stopped old new (rows_text options.lines expected (rows_of read) (ends_of read) (have_all read)) → LeavesVerdict remaining expected inputs options old new result
  write_left error read h each s =
      at_fault (LeavesVerdict remaining expected inputs options old new) result (WriteFailed error) h
      (inr (read, each, s))

  -- no memory
  pub memory_left : (rows : List Entry) → IsErrAnd result (λ fault. fault ≡ OutOfMemory) → AreBegun remaining inputs rows → Put old new (unknown_text options.lines expected rows)
      → LeavesVerdict remaining expected inputs options old new result
  memory_left rows h are p = at_fault (LeavesVerdict remaining expected inputs options old new) result OutOfMemory h (inl (rows, are, p))

  -- a fault while rows come
  pub rows_left_by : (fault : OutputFault) (known : List Expected) → known ≡ expected → IsErrAnd result (λ f. f ≡ fault)
      → (rows : List Entry) × AreBegun remaining inputs rows × StoppedBy fault old new (unknown_text options.lines known rows) → LeavesVerdict remaining expected inputs options old new result
  rows_left_by fault known e h left =
      at_fault (LeavesVerdict remaining expected inputs options old new) result fault h
      (inl (left.0, left.1, subst (λ (k : List Expected). StoppedBy fault old new (unknown_text options.lines k left.0)) e left.2))

pub ends_have_all : (read : List InputRead) (ends : List Ending) → ends ≡ map (λ (r : InputRead). r.ending) read → list_all has_all ends ≡ have_all read
ends_have_all read ends e = ap (list_all has_all) e ∙ list_all-map has_all (λ (r : InputRead). r.ending) read

-- a judgement by whether the ends that were found say that all trials are there is one by whether the inputs do
pub says_of : (judgement : Judgement) (new : Judged) (read : List InputRead) (given ends : List Ending) (all : Bool) → all ≡ list_all has_all given → given ≡ ends
    → ends ≡ map (λ (r : InputRead). r.ending) read → map finding_read judgement.unexpected.items ≡ findings new.known new.rows all
    → map finding_read judgement.unexpected.items ≡ findings new.known new.rows (have_all read)
says_of judgement new read given ends all a same e says =
    says ∙ ap (findings new.known new.rows) (a ∙ (ap (list_all has_all) same ∙ ends_have_all read ends e))

-- the lines that were written while rows came, and all that is written
pub whole_text : (known : List Expected) (new : Judged) (read : List InputRead) (given written ends : List Ending) (all : Bool) (count : ℕ) (judgement : Judgement) (form : Lines) (s t : Shown)
    → Judges form (record { known = known; rows = [] }) new (rows_of read) count s t → all ≡ list_all has_all given → given ≡ ends → written ≡ ends
    → ends ≡ map (λ (r : InputRead). r.ending) read → map finding_read judgement.unexpected.items ≡ findings new.known new.rows all
    → judgement.met ≡ length (met_by (keyed new.known) (rows_with is_failed new.rows))
    → unknown_text form known (rows_of read) ++ judgement_text form judgement count written ≡ rows_text form known (rows_of read) (ends_of read) (have_all read)
whole_text known new read given written ends all count judgement form s t judged a same w e says met =
    ap (λ (l : List Ending). unknown_text form known (rows_of read) ++ judgement_text form judgement count l) (w ∙ e)
    ∙ all_text known new (rows_of read) (have_all read) count judgement judged (says_of judgement new read given ends all a same e says) (ends_of read) met
