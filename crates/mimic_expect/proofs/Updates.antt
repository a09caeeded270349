-- The text of a file that is brought up to date, line after line.
use Rattle.std.proofs.Common.{◌≡◌, ◌==◌, ◌∙◌, append_assoc, subst, ℕ, ◌+◌, ◌<◌, Bool, true, false, cond, List, [], ◌∷◌, ◌++◌, append-nil, length, map, None, Option, Some, ap, ap₂, arith, refl, sym}
use Rattle.std.specs.Prelude.{filter}
use Rattle.std.specs.HashMap.{HashMap}
use Rattle.std.specs.List.{flat_map, list_all}
use Rattle.std.specs.Option.{option_map, option_or}
use Rattle.std.proofs.lemmas.List.Concat.{flat_map-append}
use Rattle.std.proofs.lemmas.List.Elements.{filter-append}
use Rattle.std.proofs.lemmas.List.Folds.{flat_map-map}
use Rattle.std.proofs.lemmas.List.Splits.{length-slice_split}
use Rattle.mimic_printer.specs.Json.{Entry, IsLine}
use Rattle.mimic_printer.specs.Sink.{Adds}
use Rattle.mimic_printer.specs.declared.sink.Sink.{Sink}
use Rattle.mimic_printer.proofs.Adding.{adds_then}
use Rattle.mimic_events.specs.Readings.{InputRead, has_all, is_whole}
use Rattle.mimic_events.specs.declared.ending.Ending.{Ending}
use Rattle.mimic_expect.specs.Changes.{HasChanges, read_at}
use Rattle.mimic_expect.specs.Expect.{Finding, counts, findings}
use Rattle.mimic_expect.specs.JudgedRows.{Judged, Keeps, matters}
use Rattle.mimic_expect.specs.JudgementText.{finding_read}
use Rattle.mimic_expect.specs.Known.{Expected, lines_of}
use Rattle.mimic_expect.specs.declared.judgement.Unexpected.{Unexpected}
use Rattle.mimic_expect.specs.Updated.{added_line, changes, found_at, is_number, kept_line, kept_lines, line_of, update_text, updated_text}
use Rattle.mimic_expect.specs.Verdict.{ends_of, have_all, rows_of}
use Rattle.mimic_expect.proofs.KnownLines.{line_off}
use Rattle.mimic_expect.proofs.Strangers.{filter_mapped, some_findings}
use Rattle.mimic_expect.proofs.Verdicts.{ends_have_all}

-- ---- one more finding

or_other : (b : Bool) (f g : Finding) (o : Option Finding) (c : Bool) → option_or (cond b (Some f) o) (cond c (Some g) None) ≡ cond b (Some f) (option_or o (cond c (Some g) None))
or_other true f g o c = refl
or_other false f g o c = refl

pub found_at-more : (found : List Finding) (f : Finding) (number : ℕ) → found_at (found ++ f ∷ []) number ≡ cond (is_number number (line_of f)) (Some f) (found_at found number)
found_at-more [] f number = refl
found_at-more (g ∷ found) f number =
    ap (λ (o : Option Finding). option_or o (cond (is_number number (line_of g)) (Some g) None)) (found_at-more found f number)
    ∙ or_other (is_number number (line_of f)) f g (found_at found number) (is_number number (line_of g))

-- one more finding was put into the table, at the number of its line
pub put_at : (found : List Finding) (f : Finding) (line number : ℕ) (old new : Option Unexpected) (one : Unexpected) → line_of f ≡ Some line → finding_read one ≡ f
    → option_map finding_read old ≡ found_at found number → new ≡ cond (line == number) (Some one) old → option_map finding_read new ≡ found_at (found ++ f ∷ []) number
put_at found f line number old new one is read before e =
    ap (option_map finding_read) e ∙ (at (line == number) ∙ (ap (λ (o : Option ℕ). cond (is_number number o) (Some f) (found_at found number)) (sym is) ∙ sym (found_at-more found f number)))
  where
    at : (b : Bool) → option_map finding_read (cond b (Some one) old) ≡ cond b (Some f) (found_at found number)
    at true = ap (λ (f : Finding). Some f) read
    at false = before

-- a finding about no line
pub left_at : (found : List Finding) (f : Finding) (number : ℕ) → line_of f ≡ None → found_at (found ++ f ∷ []) number ≡ found_at found number
left_at found f number none = found_at-more found f number ∙ ap (λ (o : Option ℕ). cond (is_number number o) (Some f) (found_at found number)) none

-- ---- lines

abbrev Found : Type 0
Found = ℕ → Option Finding

pub kept_lines-more : (found : Found) (number : ℕ) (line : List ℕ) (lines : List (List ℕ)) → 0 < length lines
    → kept_lines found number (line ∷ lines) ≡ kept_line line (found number) ++ kept_lines found (number + 1) lines
kept_lines-more found number line [] some = absurd (omega (arith, some))
kept_lines-more found number [] (next ∷ lines) some = refl
kept_lines-more found number (b ∷ line) (next ∷ lines) some = refl

pub kept_last : (found : Found) (number : ℕ) (line : List ℕ) → 0 < length line → kept_lines found number (line ∷ []) ≡ kept_line line (found number)
kept_last found number [] some = absurd (omega (arith, some))
kept_last found number (b ∷ line) some = append-nil (kept_line (b ∷ line) (found number))

kept_lines-same : (f g : Found) → ((n : ℕ) → f n ≡ g n) → (number : ℕ) (lines : List (List ℕ)) → kept_lines f number lines ≡ kept_lines g number lines
kept_lines-same f g same number [] = refl
kept_lines-same f g same number ([] ∷ []) = refl
kept_lines-same f g same number ([] ∷ next ∷ lines) = ap₂ (λ (a : Option Finding) (b : List ℕ). kept_line [] a ++ b) (same number) (kept_lines-same f g same (number + 1) (next ∷ lines))
kept_lines-same f g same number ((b ∷ line) ∷ lines) = ap₂ (λ (a : Option Finding) (l : List ℕ). kept_line (b ∷ line) a ++ l) (same number) (kept_lines-same f g same (number + 1) lines)

-- one more line was taken off the rest
pub kept_off : (found : Found) (number : ℕ) (rest line after : List ℕ) → rest ≡ line ++ after → (l : IsLine line)
    → kept_lines found number (lines_of rest) ≡ kept_line l.front (found number) ++ kept_lines found (number + 1) (lines_of after)
kept_off found number rest line after e l =
    ap (kept_lines found number) (line_off rest line after e l)
    ∙ kept_lines-more found number l.front (lines_of after) (let n = length-slice_split (λ (b : ℕ). b == 10) after in omega (arith, n))

-- ---- all that is written

-- what becomes of the lines was added, and then the failures that are not known
pub update_added : {W S : Type 0} {contents : W → Option (List ℕ)} {a b c : Sink W} (text : List ℕ) (found : List Unexpected) (changes : HashMap ℕ Unexpected S) → HasChanges changes (map finding_read found)
    → Adds contents a b (kept_lines (read_at changes) 1 (lines_of text)) → Adds contents b c (flat_map (λ (one : Unexpected). added_line (finding_read one)) found)
    → Adds contents a c (updated_text text (map finding_read found))
update_added text found changes has kept added =
    adds_then _ _ (subst (Adds _ _ _) (kept_lines-same (read_at changes) (found_at (map finding_read found)) has 1 (lines_of text)) kept)
    (subst (Adds _ _ _) (sym (flat_map-map added_line finding_read found)) added)

counting_read : (lax : Bool) (unexpected : List Unexpected)
    → map finding_read (filter (λ (u : Unexpected). counts lax (finding_read u)) unexpected) ≡ filter (counts lax) (map finding_read unexpected)
counting_read lax unexpected = sym (filter_mapped (counts lax) finding_read unexpected)

pub update_is : (text : List ℕ) (expected : List Expected) (lax : Bool) (read : List InputRead) (ends : List Ending) (new : Judged) (all : Bool) (unexpected found : List Unexpected)
    → ends ≡ ends_of read → list_all is_whole ends ≡ true → Keeps (record { known = expected; rows = [] }) new (rows_of read) → all ≡ list_all has_all ends → map finding_read unexpected ≡ findings new.known new.rows all
    → found ≡ filter (λ (u : Unexpected). counts lax (finding_read u)) unexpected → updated_text text (map finding_read found) ≡ update_text text expected read lax
update_is text expected lax read ends new all unexpected found ended whole keeps a says counted =
    let said : map finding_read unexpected ≡ findings expected (rows_of read) (have_all read) =
    says ∙ (ap₂ (λ (k : List Expected) (r : List Entry). findings k r all) keeps.known keeps.kept
    ∙ (some_findings expected (rows_of read) all ∙ ap (findings expected (rows_of read)) (a ∙ ends_have_all read ends ended))) in
    let same : map finding_read found ≡ changes expected read lax =
    ap (map finding_read) counted ∙ (counting_read lax unexpected ∙ ap (filter (counts lax)) (said)) in
    ap (updated_text text) same ∙ ap (λ (b : Bool). cond b (updated_text text (changes expected read lax)) []) (sym whole ∙ ap (list_all is_whole) ended)

-- ---- rows that are kept

pub keeps_none : (a : Judged) → Keeps a a []
keeps_none a = record { known = refl; kept = sym (append-nil a.rows) }

pub keeps_then : (a b c : Judged) (xs ys : List Entry) → Keeps a b xs → Keeps b c ys → Keeps a c (xs ++ ys)
keeps_then a b c xs ys p q = record {
  known = q.known ∙ p.known;
  kept = rw (q.kept, p.kept, p.known, filter-append (matters a.known) xs ys) (append_assoc a.rows _ _);
}

-- the rows of the next input
pub keeps_next : (a b c : Judged) (read : List InputRead) (next : InputRead) → Keeps a b (rows_of read) → Keeps b c next.entries → Keeps a c (rows_of (read ++ next ∷ []))
keeps_next a b c read next p q =
    subst (Keeps a c) (sym (flat_map-append (λ (r : InputRead). r.entries) read (next ∷ []) ∙ ap (λ (l : List Entry). rows_of read ++ l) (append-nil next.entries)))
    (keeps_then a b c (rows_of read) next.entries p q)
