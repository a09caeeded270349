-- The lines of a file of known failures, one after another.
use Rattle.std.proofs.Common.{◌≡◌, ◌≢◌, ◌==◌, ℕ, ◌+◌, Bool, true, false, List, [], ◌∷◌, ◌++◌, length, refl, sym, ap, subst, ◌∙◌, append_assoc, length-append, inl, inr, arith}
use Rattle.std.specs.Prelude.{Some}
use Rattle.std.specs.Bool.{MatchBool}
use Rattle.std.specs.List.{AllByRecursion}
use Rattle.std.proofs.lemmas.Bool.Decides.{nat_tests}
use Rattle.std.proofs.lemmas.List.Elements.{All-from_recursion}
use Rattle.std.proofs.lemmas.List.Splits.{slice_split_at, slice_split_none}
use Rattle.mimic_printer.specs.Json.{Entry, HasNoEnd, IsLine}
use Rattle.mimic_events.specs.Reading.{Decodes}
use Rattle.mimic_expect.specs.Known.{AreExpected, CannotSay, Expected, IsFirstUnreadable, IsReadable, SayFrom, SaysFailure, lines_of, says_nothing}
use Rattle.mimic_expect.specs.Lines.{AddsLine, CannotAdd}
use Rattle.mimic_expect.specs.declared.known.KnownFault.{KnownFault}
use Rattle.mimic_expect.specs.declared.known.KnownFault.TheVariants.{Line, OutOfMemory}

-- ---- choices

either : (b : Bool) {P Q R S : Type 0} → (P → R) → (Q → S) → MatchBool b P Q → MatchBool b R S
either true f g h = f h
either false f g h = g h

-- ---- lines of a text

no_end : (bytes : List ℕ) → HasNoEnd bytes → AllByRecursion (λ b. (b == 10) ≡ false) bytes
no_end [] h = tt
no_end (b ∷ bytes) h = (let ne : b ≢ 10 = h.0 in grind (arith, nat_tests), no_end bytes h.1)

pub line_off : (rest line after : List ℕ) → rest ≡ line ++ after → (l : IsLine line) → lines_of rest ≡ l.front ∷ lines_of after
line_off rest line after e l =
    rw (e, l.parts, append_assoc l.front (10 ∷ []) after)
    (slice_split_at (λ b. b == 10) l.front 10 after (All-from_recursion (λ b. (b == 10) ≡ false) l.front (no_end l.front l.whole)) refl)

pub one_line : (rest : List ℕ) → HasNoEnd rest → lines_of rest ≡ rest ∷ []
one_line rest h = slice_split_none (λ b. b == 10) rest (All-from_recursion (λ b. (b == 10) ≡ false) rest (no_end rest h))

-- ---- what lines say

-- a line says no two failures
abbrev pub SaysOne : List ℕ → Type 0
SaysOne line = MatchBool (says_nothing line) (Unit {0}) ((a b : Entry) → SaysFailure a line → SaysFailure b line → b ≡ a)

abbrev pub expected : Entry → ℕ → Expected
expected entry line = record { entry = entry; line = line }

behind_at : (b : Bool) (number : ℕ) (line : List ℕ) (x : Expected) (more new : List Expected)
    → MatchBool b (new ≡ x ∷ more) ((entry : Entry) × SaysFailure entry line × ((other : Entry) → SaysFailure other line → other ≡ entry) × (new ≡ (x ∷ more) ++ expected entry number ∷ []))
    → (rest : List Expected) × (new ≡ x ∷ rest)
    × MatchBool b (rest ≡ more) ((entry : Entry) × SaysFailure entry line × ((other : Entry) → SaysFailure other line → other ≡ entry) × (rest ≡ more ++ expected entry number ∷ []))
behind_at true number line x more new h = (more, h, refl)
behind_at false number line x more new h = (more ++ expected h.0 number ∷ [], h.3, (h.0, h.1, h.2, refl))

pub say_more : (from : ℕ) (lines : List (List ℕ)) (line : List ℕ) (number : ℕ) (old new : List Expected) → number ≡ from + length lines → SayFrom from lines old
    → AddsLine number line old new → SayFrom from (lines ++ line ∷ []) new
say_more from [] line number old new e says adds =
    let here : number ≡ from = omega (arith, e) in
    either (says_nothing line) (λ h. h ∙ says) (λ (h : (entry : Entry) × SaysFailure entry line × ((other : Entry) → SaysFailure other line → other ≡ entry) × (new ≡ old ++ expected entry number ∷ [])).
    (h.0, [], h.3 ∙ ap (λ (l : List Expected). l ++ expected h.0 number ∷ []) says ∙ ap (λ (n : ℕ). expected h.0 n ∷ []) here, h.1, refl)) adds
say_more from (first ∷ lines) line number old new e says adds =
    let next : number ≡ (from + 1) + length lines = omega (arith, e) in
    either (says_nothing first) (λ h. say_more (from + 1) lines line number old new next h adds)
    (λ (h : (entry : Entry) × (more : List Expected) × (old ≡ expected entry from ∷ more) × SaysFailure entry first × SayFrom (from + 1) lines more).
    let b = behind_at (says_nothing line) number line (expected h.0 from) h.1 new (subst (λ (l : List Expected). AddsLine number line l new) h.2 adds) in
    (h.0, b.0, b.1, h.3, say_more (from + 1) lines line number h.1 b.0 next h.4 b.2)) says

say_one_at : (b : Bool) (from : ℕ) (line : List ℕ) (lines : List (List ℕ)) (x y : List Expected)
    → ((x y : List Expected) → SayFrom (from + 1) lines x → SayFrom (from + 1) lines y → y ≡ x)
    → MatchBool b (Unit {0}) ((a b : Entry) → SaysFailure a line → SaysFailure b line → b ≡ a)
    → MatchBool b (SayFrom (from + 1) lines x) ((entry : Entry) × (more : List Expected) × (x ≡ expected entry from ∷ more) × SaysFailure entry line × SayFrom (from + 1) lines more)
    → MatchBool b (SayFrom (from + 1) lines y) ((entry : Entry) × (more : List Expected) × (y ≡ expected entry from ∷ more) × SaysFailure entry line × SayFrom (from + 1) lines more)
    → y ≡ x
say_one_at true from line lines x y rest one h k = rest x y h k
say_one_at false from line lines x y rest one h k =
    k.2 ∙ (ap (λ (e : Entry). expected e from ∷ k.1) (one h.0 k.0 h.3 k.3) ∙ (ap (λ (l : List Expected). expected h.0 from ∷ l) (rest h.1 k.1 h.4 k.4) ∙ sym h.2))

-- lines say one list
pub say_one : (from : ℕ) (lines : List (List ℕ)) → AllByRecursion SaysOne lines → (x y : List Expected) → SayFrom from lines x → SayFrom from lines y → y ≡ x
say_one from [] one x y h k = k ∙ sym h
say_one from (line ∷ lines) one x y h k = say_one_at (says_nothing line) from line lines x y (say_one (from + 1) lines one.1) one.0 h k

-- ---- a text that is read

-- the lines before the rest were read, and say what was found
pub record Reading (text rest : List ℕ) (number : ℕ) (found : List Expected) : Type 0 where
  pub before : List (List ℕ)
  pub parts : lines_of text ≡ before ++ lines_of rest
  pub place : number ≡ length before + 1
  pub readable : AllByRecursion IsReadable before
  pub one : AllByRecursion SaysOne before
  pub says : SayFrom 1 before found

pub begun : (text : List ℕ) → Reading text text 1 []
begun text = record { before = []; parts = refl; place = refl; readable = tt; one = tt; says = refl }

all_more : {X : Type 0} (P : X → Type 0) (xs : List X) (x : X) → AllByRecursion P xs → P x → AllByRecursion P (xs ++ x ∷ [])
all_more P [] x h here = (here, tt)
all_more P (y ∷ xs) x h here = (h.0, all_more P xs x h.1 here)

reads : (number : ℕ) (line : List ℕ) (old new : List Expected) → AddsLine number line old new → IsReadable line
reads number line old new h = at (says_nothing line) refl h
  where
    at : (b : Bool) → says_nothing line ≡ b
        → MatchBool b (new ≡ old) ((entry : Entry) × SaysFailure entry line × ((other : Entry) → SaysFailure other line → other ≡ entry) × (new ≡ old ++ expected entry number ∷ []))
        → IsReadable line
    at true e h = inl e
    at false e h = inr (h.0, h.1)

says_one : (number : ℕ) (line : List ℕ) (old new : List Expected) → AddsLine number line old new → SaysOne line
says_one number line old new h =
    either (says_nothing line) (λ h. tt)
    (λ (h : (entry : Entry) × SaysFailure entry line × ((other : Entry) → SaysFailure other line → other ≡ entry) × (new ≡ old ++ expected entry number ∷ [])). λ a b x y. h.2 b y ∙ sym (h.2 a x)) h

-- one more line was read
pub read_more : (text rest line after : List ℕ) (number : ℕ) (old new : List Expected) → Reading text rest number old → rest ≡ line ++ after → (l : IsLine line) → AddsLine number l.front old new
    → Reading text after (number + 1) new
read_more text rest line after number old new r e l adds =
    record {
      before = r.before ++ l.front ∷ [];
      parts = r.parts ∙ (ap (λ (x : List (List ℕ)). r.before ++ x) (line_off rest line after e l) ∙ sym (append_assoc r.before (l.front ∷ []) (lines_of after)));
      place = omega (arith, r.place, length-append {A = List ℕ});
      readable = all_more IsReadable r.before l.front r.readable (reads number l.front old new adds);
      one = all_more SaysOne r.before l.front r.one (says_one number l.front old new adds);
      says = say_more 1 r.before l.front number old new (omega (arith, r.place)) r.says adds;
    }

-- the last line was read
pub read_last : (text rest : List ℕ) (number : ℕ) (old new : List Expected) → Reading text rest number old → HasNoEnd rest → AddsLine number rest old new → Decodes AreExpected text (Some new)
read_last text rest number old new r whole adds =
    let parts : lines_of text ≡ r.before ++ rest ∷ [] = r.parts ∙ ap (λ (x : List (List ℕ)). r.before ++ x) (one_line rest whole) in
    let says : SayFrom 1 (r.before ++ rest ∷ []) new = say_more 1 r.before rest number old new (omega (arith, r.place)) r.says adds in
    let one : AllByRecursion SaysOne (r.before ++ rest ∷ []) = all_more SaysOne r.before rest r.one (says_one number rest old new adds) in (
      subst (λ (x : List (List ℕ)). SayFrom 1 x new) (sym parts) says,
      λ other h. say_one 1 (r.before ++ rest ∷ []) one new other says (subst (λ (x : List (List ℕ)). SayFrom 1 x other) parts h),
    )

-- ---- faults

-- a line was not read
pub wrong : (text rest front : List ℕ) (more : List (List ℕ)) (number : ℕ) (old : List Expected) (fault : KnownFault) → Reading text rest number old
    → lines_of rest ≡ front ∷ more → CannotAdd number front fault → CannotSay text fault
wrong text rest front more number old OutOfMemory r off w = tt
wrong text rest front more number old (Line n) r off w =
    let parts = r.parts ∙ ap (λ (x : List (List ℕ)). r.before ++ x) off in
    subst (IsFirstUnreadable text) (sym w.0)
    (record { before = r.before; line = front; after = more; parts = parts; place = r.place; readable = r.readable; wrong = w.1 })
