-- Rows that are judged one after another.
use Rattle.std.proofs.Common.{◌≡◌, ◌||◌, ℕ, ◌+◌, ◌-◌, ◌<◌, ◌^◌, Bool, false, not, List, [], ◌∷◌, ◌++◌, length, length-append, map, Option, IfSome, refl, sym, ap, ap₂, subst, ◌∙◌, append_assoc, append-nil, arith}
use Rattle.std.specs.Prelude.{filter}
use Rattle.std.specs.List.{AllZip, flat_map, list_any}
use Rattle.std.proofs.lemmas.List.{map-append}
use Rattle.std.proofs.lemmas.List.Concat.{flat_map-append}
use Rattle.std.proofs.lemmas.List.Elements.{filter-append}
use Rattle.std.proofs.lemmas.List.Filters.{length-filter_both}
use Rattle.mimic_trial.specs.declared.outcome.Outcome.{Outcome}
use Rattle.mimic_trial.specs.declared.outcome.Outcome.TheVariants.{Failed, Ignored, Measured, Passed}
use Rattle.mimic_trial.specs.Count.{is_failed}
use Rattle.mimic_printer.specs.Json.{Entry}
use Rattle.mimic_printer.specs.Sink.{Put, Shown, Stopped}
use Rattle.mimic_printer.proofs.Appending.{Put-Stopped, Put-refl, Put-trans}
use Rattle.mimic_events.specs.Key.{label_in, same_label}
use Rattle.mimic_events.proofs.Keys.{same_label-symm}
use Rattle.mimic_events.proofs.RowSteps.{none_ended}
use Rattle.mimic_events.specs.Readings.{HasEndedRows, InputRead, IsReadOf}
use Rattle.mimic_expect.specs.Expect.{FailedRow, is_known, rows_with, unknown_failures}
use Rattle.mimic_expect.specs.FindingText.{finding_text, unknown_text}
use Rattle.mimic_expect.specs.JudgedRows.{Judged, Judges, labels_known}
use Rattle.mimic_expect.specs.Known.{Expected, expected_read}
use Rattle.mimic_expect.specs.KnownText.{StoppedBy}
use Rattle.mimic_expect.specs.Verdict.{AreBegun, AreNext, rows_of}
use Rattle.mimic_printer.specs.declared.sink.OutputFault.{OutputFault}
use Rattle.mimic_printer.specs.declared.sink.OutputFault.TheVariants.{OutOfMemory, Write}
use Rattle.mimic_expect.specs.declared.known.Expectation.{Expectation}
use Rattle.mimic_expect.specs.declared.options.Lines.{Lines}

abbrev pub lines : Lines → List Entry → List ℕ
lines form rows = flat_map (finding_text form) (map FailedRow rows)

unknown-append : (known : List Expected) (xs ys : List Entry) → unknown_failures known (xs ++ ys) ≡ unknown_failures known xs ++ unknown_failures known ys
unknown-append known xs ys =
    let lacks : Entry → Bool = λ (row : Entry). not (is_known known row) in
    ap (rows_with is_failed) (filter-append lacks xs ys) ∙ filter-append (λ (row : Entry). is_failed row.outcome) (filter lacks xs) (filter lacks ys)

lines-append : (form : Lines) (xs ys : List Entry) → lines form (xs ++ ys) ≡ lines form xs ++ lines form ys
lines-append form xs ys = ap (flat_map (finding_text form)) (map-append FailedRow xs ys) ∙ flat_map-append (finding_text form) (map FailedRow xs) (map FailedRow ys)

unknown_text-append : (form : Lines) (known : List Expected) (xs ys : List Entry) → unknown_text form known (xs ++ ys) ≡ unknown_text form known xs ++ unknown_text form known ys
unknown_text-append form known xs ys = ap (lines form) (unknown-append known xs ys) ∙ lines-append form (unknown_failures known xs) (unknown_failures known ys)

pub judges_none : {form : Lines} (a : Judged) (s : Shown) → Judges form a a [] 0 s s
judges_none a s = record { known = refl; kept = sym (append-nil a.rows); counted = refl; put = Put-refl s }

pub judges_then : {form : Lines} (a b c : Judged) (xs ys : List Entry) (m n : ℕ) (s t u : Shown) → Judges form a b xs m s t → Judges form b c ys n t u → Judges form a c (xs ++ ys) (m + n) s u
judges_then {form} a b c xs ys m n s t u p q =
    let both = unknown-append a.known xs ys in
    record {
      known = q.known ∙ p.known;
      kept = rw (q.kept, p.kept, p.known, filter-append (is_known a.known) xs ys) (append_assoc a.rows _ _);
      counted = rw (p.counted, q.counted, p.known, both, length-append) refl;
      put = rw (both, lines-append form) (Put-trans _ _ p.put (rw p.known at q.put));
    }

-- ---- one row

pub known_labels : (known : List Expectation) (row : Entry) → is_known (map expected_read known) row ≡ list_any (same_label row.label) (labels_known known)
known_labels [] row = refl
known_labels (e ∷ known) row = ap₂ (λ (a b : Bool). a || b) (same_label-symm (label_in e.row) row.label) (known_labels known row)

pub not_failed : (o : Outcome) → ((m : Option (List ℕ)) → o ≡ Failed m → ⊥) → is_failed o ≡ false
not_failed Passed h = refl
not_failed (Failed m) h = absurd (h m refl)
not_failed Ignored h = refl
not_failed (Measured m) h = refl

-- the line of a failure that no known failure has
pub one_line : (form : Lines) (known : List Expected) (row found : Entry) → found ∷ [] ≡ unknown_failures known (row ∷ []) → finding_text form (FailedRow found) ≡ unknown_text form known (row ∷ [])
one_line form known row found e = sym (append-nil _) ∙ ap (lines form) e

-- ---- how many

-- there is room for one more failure while one more row comes
pub room : {form : Lines} (entries : List Entry) (a b : Judged) (count : ℕ) (s t : Shown) → length entries < 2 ^ 64 - 1 → Judges form a b entries count s t → count < 2 ^ 64 - 1
room entries a b count s t few j =
    let lacks : Entry → Bool = λ (row : Entry). not (is_known a.known row) in
    let fails : Entry → Bool = λ (row : Entry). is_failed row.outcome in
    let counted = j.counted in
    let lacking = length-filter_both lacks (λ (x : Entry). not (lacks x)) (λ x. refl) entries in
    let failing = length-filter_both fails (λ (x : Entry). not (fails x)) (λ x. refl) (filter lacks entries) in
    omega (arith, counted, lacking, failing, few)

-- ---- faults

-- a fault behind rows that were judged
pub lines_then : {form : Lines} (a b : Judged) (xs ys : List Entry) (count : ℕ) (s t u : Shown) (fault : OutputFault) → Judges form a b xs count s t
    → StoppedBy fault t u (unknown_text form b.known ys) → StoppedBy fault s u (unknown_text form a.known (xs ++ ys))
lines_then {form} a b xs ys count s t u OutOfMemory j left =
    subst (Put s u) (sym (unknown_text-append form a.known xs ys)) (Put-trans _ _ j.put (rw j.known at left))
lines_then {form} a b xs ys count s t u (Write fault) j left =
    subst (Stopped s u) (sym (unknown_text-append form a.known xs ys)) (Put-Stopped _ _ j.put (rw j.known at left))

-- ---- inputs, one after another

pub input_judged : {form : Lines} (a b c : Judged) (read : List InputRead) (next : InputRead) (m n k : ℕ) (s t u : Shown) → Judges form a b (rows_of read) m s t → Judges form b c next.entries n t u → k ≡ n
    → Judges form a c (rows_of (read ++ next ∷ [])) (m + k) s u
input_judged a b c read next m n k s t u p q e =
    rw (e, flat_map-append (λ (r : InputRead). r.entries) read (next ∷ []), append-nil next.entries) (judges_then a b c (rows_of read) next.entries m n s t u p q)

-- ---- no rows

module _ {I : Type 0} (remaining : I → Option (List ℕ)) where
  pub none_next : (inputs : List I) → AreNext remaining inputs []
  none_next [] = refl
  none_next (input ∷ inputs) = none_ended (remaining input)

  -- a fault in the next input
  pub input_left : {form : Lines} (inputs before rest : List I) (input : I) (read : List InputRead) (a b : Judged) (count : ℕ) (s t u : Shown) (fault : OutputFault)
      → inputs ≡ before ++ input ∷ rest → AllZip (λ input r. IsReadOf (remaining input) r) before read → Judges form a b (rows_of read) count s t
      → (rows : List Entry) × IfSome (remaining input) (HasEndedRows rows) × StoppedBy fault t u (unknown_text form b.known rows)
      → (rows : List Entry) × AreBegun remaining inputs rows × StoppedBy fault s u (unknown_text form a.known rows)
  input_left inputs before rest input read a b count s t u fault parts each j left = (
    rows_of read ++ left.0,
    record {
      before = before;
      after = input ∷ rest;
      parts = parts;
      read = read;
      each = each;
      last = left.0;
      next = left.1;
      all = refl;
    },
    lines_then a b (rows_of read) left.0 count s t u fault j left.2,
  )

  -- some inputs were read, and no row of the next one
  pub inputs_read : (inputs before after : List I) (read : List InputRead) → inputs ≡ before ++ after → AllZip (λ input r. IsReadOf (remaining input) r) before read
      → AreBegun remaining inputs (rows_of read)
  inputs_read inputs before after read parts each = record {
    before = before;
    after = after;
    parts = parts;
    read = read;
    each = each;
    last = [];
    next = none_next after;
    all = sym (append-nil (rows_of read));
  }

  -- no input was read
  pub none_read : (inputs : List I) → AreBegun remaining inputs []
  none_read inputs = inputs_read inputs [] inputs [] refl tt
