-- A command line with words of the program's own.
use Rattle.std.specs.Prelude.{◌≡◌, ◌≢◌, ◌≤◌, ◌<◌, ◌+◌, ◌++◌, ◌∷◌, ◌⊎◌, [], ℕ, Bool, List, None, Option, Some, codes, drop, get_or, IfErr, IfOk, IfSome, length, map, nat_eq, string_bytes, take}
use Rattle.std.specs.List.{find}
use Rattle.clap.specs.Walk.{Text}
use Rattle.mimic_args.specs.CommandLine.{IsMeaningOf, IsRefusalOf}
use Rattle.mimic_args.specs.declared.error.ArgumentsError.{ArgumentsError}
use Rattle.mimic_args.specs.declared.error.ArgumentsError.TheVariants.{OutOfMemory, Help, Refused}
use Rattle.mimic_args.specs.declared.line.Line.{Line}

-- what ends a program's own words (our own)
abbrev pub separator : Text
separator = codes "--"

-- `own` words come before the first `--`, or there is no `--` and `own` is the number of all words (our own)
pub record IsOwnLength (words : List Text) (own : ℕ) : Type 0 where
  pub within : own ≤ length words
  pub others : (k : ℕ) → k < own → get_or words k separator ≢ separator
  pub ended : get_or words own separator ≡ separator

-- the line that the harness gets: the program's name, with ` .. --` behind it for the usage, and the words after the first `--` (our own)
abbrev pub asked : List Text → ℕ → List Text
asked words own = (get_or words 0 [] ++ codes " .. --") ∷ drop (own + 1) (drop 1 words)

-- a line has the program's name, its own words, and after the first `--` what is asked of the harness. If the options are
-- arguments, they are the meaning of the line that the harness gets (our own)
pub record IsLine (words : List Text) (line : Line) : Type 0 where
  pub own_length : ℕ
  pub is_own : IsOwnLength (drop 1 words) own_length
  pub own : map string_bytes line.own.items ≡ take own_length (drop 1 words)
  pub options : IfOk line.options (IsMeaningOf (asked words own_length))

-- such a line; if its options are an error, the error is one for the line that the harness gets (our own)
abbrev pub IsLineOf : List Text → Line → Type 0
IsLineOf words line = (is : IsLine words line) × IfErr line.options (IsRefusalOf (asked words is.own_length))

-- a text says why a line is refused, and how the program is used (our own, in `clap`'s form)
abbrev pub says_why : Text → Text → Text
says_why usage reason = codes "error: " ++ (reason ++ (codes "\n\n" ++ usage))

-- it does so for some reason
abbrev pub SaysWhy : Text → Text → Type 0
SaysWhy usage text = (reason : Text) × (text ≡ says_why usage reason)

-- the refusal of a line for a reason, which is shown if it can be, or no memory for it (our own)
abbrev pub IsBecause : Option Text → Text → ArgumentsError → Type 0
IsBecause shown usage OutOfMemory = Unit {0}
IsBecause shown usage (Help text) = ⊥
IsBecause shown usage (Refused text) = (reason : Text) × (string_bytes text ≡ says_why usage reason) × IfSome shown (λ s. reason ≡ s)

-- the program's own words on a line
abbrev pub own_words : Line → List Text
own_words line = map string_bytes line.own.items

-- a word is an option: it begins with a hyphen (our own)
abbrev pub is_option : Text → Bool
is_option word = nat_eq (get_or word 0 0) 45

-- the first option among the words asks for help (our own)
abbrev pub AsksForHelp : List Text → Type 0
AsksForHelp words = (find is_option words ≡ Some (codes "--help")) ⊎ (find is_option words ≡ Some (codes "-h"))

-- there are at least `least` words and at most `most`, and none of them is an option (our own)
pub record AreOperands (least most : ℕ) (words : List Text) : Type 0 where
  pub no_option : find is_option words ≡ None
  pub enough : least ≤ length words
  pub no_more : length words ≤ most

-- why words are not taken as operands: an allocation failed, or help was asked for, which is the usage, or the words are no
-- operands, which is said before the usage (our own)
abbrev pub RefusesOperands : Text → ℕ → ℕ → List Text → ArgumentsError → Type 0
RefusesOperands usage least most words OutOfMemory = Unit {0}
RefusesOperands usage least most words (Help text) = (string_bytes text ≡ usage) × AsksForHelp words
RefusesOperands usage least most words (Refused text) = SaysWhy usage (string_bytes text) × (AsksForHelp words → ⊥)
    × (AreOperands least most words → ⊥)
