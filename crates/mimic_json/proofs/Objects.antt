-- The text of an object of fields, as our lines have it, is read as that object.
use Rattle.std.proofs.Common.{◌≡◌, ℕ, ◌<◌, ◌^◌, true, false, List, [], ◌∷◌, ◌++◌, map, Option, Some, option_and_then, decimal, refl, sym, ap, ap₂, ◌∙◌, arith, inl, append_assoc, append-nil}
use Rattle.std.specs.Prelude.{⊤}
use Rattle.std.specs.List.{AllByRecursion}
use Rattle.json.specs.Token.{Token}
use Rattle.json.specs.Lex.{tokens}
use Rattle.json.specs.Json as json
use Rattle.json.specs.Tree.{json_tokens, members_tokens, depth, members_depth}
use Rattle.json.specs.Print as print
use Rattle.json.specs.Spaced.{print_spaced, AreGaps}
use Rattle.json.proofs.Printed.Tokens.{tokens-print_spaced}
use Rattle.json.proofs.Printed.Trees.{value-json_tokens}
use Rattle.json.proofs.Printed.Decimals.{IsNumber-decimal}
use Rattle.serde_json.specs.Data.{Data, Members, no_members, put}
use Rattle.serde_json.specs.Read.{read, max_depth, of_json, of_members}
use Rattle.serde_json.proofs.Numbers.{number_of-decimal}
use Rattle.mimic_trial.specs.Escape.{escaped}
use Rattle.mimic_trial.specs.Seconds.{exact_seconds}
use Rattle.mimic_json.specs.Fields.{Scalar, text, count, seconds, Field, data_of, json_members, json_of, object_of, with_fields}
use Rattle.mimic_json.proofs.Escapes.{escaped_same}
use Rattle.mimic_json.proofs.Times.{IsNumber-exact_seconds, number_of-exact_seconds}

-- a number is below 2^64
abbrev pub FitsScalar : Scalar → Type 0
FitsScalar (text s) = ⊤
FitsScalar (count n) = n < 2 ^ 64
FitsScalar (seconds n) = n < 2 ^ 64

-- ---- the text, in our words

abbrev pub scalar_text : Scalar → List ℕ
scalar_text (text s) = 34 ∷ (escaped s ++ 34 ∷ [])
scalar_text (count n) = decimal n
scalar_text (seconds n) = exact_seconds n

abbrev pub field_text : Field → List ℕ
field_text f = 32 ∷ 34 ∷ (escaped f.0 ++ (34 ∷ 58 ∷ 32 ∷ scalar_text f.1))

abbrev pub later_text : List Field → List ℕ
later_text [] = 32 ∷ 125 ∷ []
later_text (f ∷ fs) = 44 ∷ (field_text f ++ later_text fs)

abbrev pub object_text : List Field → List ℕ
object_text [] = 123 ∷ later_text []
object_text (f ∷ fs) = 123 ∷ (field_text f ++ later_text fs)

-- ---- the same as a print of tokens

abbrev token_of : Scalar → Token
token_of (text s) = Token.string s
token_of (count n) = Token.number (decimal n)
token_of (seconds n) = Token.number (exact_seconds n)

abbrev spaced : List Field → List (List ℕ × Token)
spaced [] = (32 ∷ [], Token.end_object) ∷ []
spaced (f ∷ fs) = (32 ∷ [], Token.key f.0) ∷ (32 ∷ [], token_of f.1) ∷ spaced fs

join : (k v rest : List ℕ) → (34 ∷ (k ++ 34 ∷ []) ++ 58 ∷ []) ++ 32 ∷ (v ++ rest) ≡ 34 ∷ ((k ++ 34 ∷ 58 ∷ 32 ∷ v) ++ rest)
join k v rest = simp append_assoc

value_printed : (v : Scalar) (fs : List Field) → print_spaced true (spaced fs) ≡ later_text fs
    → print_spaced false ((32 ∷ [], token_of v) ∷ spaced fs) ≡ 32 ∷ (scalar_text v ++ later_text fs)
unfolding print_spaced
value_printed (text s) fs e = ap₂ (λ (q r : List ℕ). 32 ∷ 34 ∷ ((q ++ 34 ∷ []) ++ r)) (sym (escaped_same s)) e
value_printed (count n) fs e = ap (λ (r : List ℕ). 32 ∷ (decimal n ++ r)) e
value_printed (seconds n) fs e = ap (λ (r : List ℕ). 32 ∷ (exact_seconds n ++ r)) e

key_printed : (k : List ℕ) (v : Scalar) (fs : List Field) → print_spaced true (spaced fs) ≡ later_text fs
    → (print.quoted k ++ 58 ∷ []) ++ print_spaced false ((32 ∷ [], token_of v) ∷ spaced fs) ≡ 34 ∷ ((escaped k ++ 34 ∷ 58 ∷ 32 ∷ scalar_text v) ++ later_text fs)
key_printed k v fs e =
    ap₂ (λ (q r : List ℕ). (34 ∷ (q ++ 34 ∷ []) ++ 58 ∷ []) ++ r) (sym (escaped_same k)) (value_printed v fs e) ∙ join (escaped k) (scalar_text v) (later_text fs)

later_printed : (fs : List Field) → print_spaced true (spaced fs) ≡ later_text fs
unfolding print_spaced
later_printed [] = refl
later_printed (f ∷ fs) = ap (λ (r : List ℕ). 44 ∷ 32 ∷ r) (key_printed f.0 f.1 fs (later_printed fs))

object_printed : (fs : List Field) → print_spaced false (([], Token.begin_object) ∷ spaced fs) ≡ object_text fs
unfolding print_spaced
object_printed [] = refl
object_printed (f ∷ fs) = ap (λ (r : List ℕ). 123 ∷ 32 ∷ r) (key_printed f.0 f.1 fs (later_printed fs))

-- ---- the tokens are those of a value

one_token : (v : Scalar) (ts : List Token) → json_tokens (json_of v) ++ ts ≡ token_of v ∷ ts
one_token (text s) ts = refl
one_token (count n) ts = refl
one_token (seconds n) ts = refl

members_spaced : (fs : List Field) → map (λ p. p.1) (spaced fs) ≡ members_tokens (json_members fs)
members_spaced [] = refl
members_spaced (f ∷ fs) = ap (λ (ts : List Token). Token.key f.0 ∷ token_of f.1 ∷ ts) (members_spaced fs) ∙ ap (λ (ts : List Token). Token.key f.0 ∷ ts) (sym (one_token f.1 (members_tokens (json_members fs))))

gaps : (fs : List Field) → AreGaps (spaced fs)
gaps [] = ((inl refl, tt), tt)
gaps (f ∷ fs) = ((inl refl, tt), ((inl refl, tt), gaps fs))

printable_scalar : (v : Scalar) → FitsScalar v → print.IsPrintable (token_of v)
printable_scalar (text s) h = tt
printable_scalar (count n) h = IsNumber-decimal n h
printable_scalar (seconds n) h = IsNumber-exact_seconds n h

printable : (fs : List Field) → AllByRecursion (λ f. FitsScalar f.1) fs → print.ArePrintable (map (λ p. p.1) (spaced fs))
unfolding print.ArePrintable
printable [] h = (tt, tt)
printable (f ∷ fs) h = (tt, (printable_scalar f.1 h.0, printable fs h.1))

printable_object : (fs : List Field) → AllByRecursion (λ f. FitsScalar f.1) fs → print.ArePrintable (map (λ p. p.1) (([], Token.begin_object) ∷ spaced fs))
unfolding print.ArePrintable
printable_object fs h = (tt, printable fs h)

shallow_scalar : (v : Scalar) → depth (json_of v) ≡ 0
shallow_scalar (text s) = refl
shallow_scalar (count n) = refl
shallow_scalar (seconds n) = refl

shallow : (fs : List Field) → members_depth (json_members fs) ≡ 0
shallow [] = refl
shallow (f ∷ fs) = rw (shallow_scalar f.1, shallow fs) refl

-- ---- the value is the object

abbrev whole : Option (json.Json × List Token) → Option Data
whole o = option_and_then of_json (option_and_then (λ p. json.if_last p.0 p.1) o)

scalar_data : (v : Scalar) → FitsScalar v → of_json (json_of v) ≡ Some (data_of v)
scalar_data (text s) h = refl
scalar_data (count n) h = rw (number_of-decimal n h) refl
scalar_data (seconds n) h = rw (number_of-exact_seconds n h) refl

fields_data : (fs : List Field) (found : Members) → AllByRecursion (λ f. FitsScalar f.1) fs → of_members (json_members fs) found ≡ Some (with_fields fs found)
fields_data [] found h = refl
fields_data (f ∷ fs) found h = rw (scalar_data f.1 h.0) (fields_data fs (put f.0 (data_of f.1) found) h.1)

-- the tokens of the text
object_tokens : (fs : List Field) → AllByRecursion (λ f. FitsScalar f.1) fs → tokens (object_text fs) ≡ json_tokens (json.object (json_members fs)) ++ []
object_tokens fs h =
    let ps : List (List ℕ × Token) = ([], Token.begin_object) ∷ spaced fs in
    ap tokens (sym (object_printed fs)) ∙ tokens-print_spaced ps (tt, gaps fs) (printable_object fs h) ∙ ap (λ (ts : List Token). Token.begin_object ∷ ts) (members_spaced fs)
    ∙ sym (append-nil (json_tokens (json.object (json_members fs))))

pub object_document : (fs : List Field) → AllByRecursion (λ f. FitsScalar f.1) fs → json.document (object_text fs) ≡ Some (json.object (json_members fs))
object_document fs h =
    ap (option_and_then (λ p. json.if_last p.0 p.1))
    (ap (json.value json.max_depth) (object_tokens fs h) ∙ value-json_tokens (json.object (json_members fs)) json.max_depth [] (omega (arith, shallow fs)))

pub object_read : (fs : List Field) → AllByRecursion (λ f. FitsScalar f.1) fs → read (object_text fs) ≡ Some (object_of fs)
object_read fs h =
    ap whole (ap (json.value max_depth) (object_tokens fs h) ∙ value-json_tokens (json.object (json_members fs)) max_depth [] (omega (arith, shallow fs)))
    ∙ rw (fields_data fs no_members h) refl
