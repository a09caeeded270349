-- What each field of the arguments is, by what a parsed line holds under the id of its option. An entry is an id with the
-- texts of its uses, as `clap` returns them.
use Rattle.std.specs.Prelude.{◌≡◌, ◌&&◌, ◌||◌, is_some, ◌<◌, ◌^◌, ℕ, Bool, false, List, [], ◌∷◌, Option, Some, None, codes, map, option_map, option_and_then, unwrap_or}
use Rattle.std.specs.Str.{bytes_eq}
use Rattle.mimic_trial.specs.Formats.{format_name, formats, named}
use Rattle.std.specs.Str.Parse.{IsNumeral, digits_value, without_leading_plus}
use Rattle.std.specs.String.{string_bytes}
use Rattle.std.specs.Option.{option_map_or}
use Rattle.clap.specs.Words.{Row, all_of, first_of, found_of, rows_of}
use Rattle.clap.specs.declared.parser.matches.ArgMatches.{ArgMatches}
use Rattle.mimic_args.specs.declared.Arguments.{Arguments}
use Rattle.mimic_args.specs.declared.ColorSetting.{ColorSetting}
use Rattle.mimic_args.specs.declared.ColorSetting.TheVariants.{Auto, Always, Never}
use Rattle.mimic_args.specs.declared.UnstableFlags.{UnstableFlags}
use Rattle.mimic_args.specs.declared.UnstableFlags.TheVariants.{UnstableOptions}

-- the entries that a parsed line holds
abbrev pub entries_of : ArgMatches → List Row
entries_of m = rows_of (found_of m)

-- the first text under an id, if there is one
abbrev pub first_text : List Row → List ℕ → Option (List ℕ)
first_text f id = first_of id f

-- the texts of all uses of an id
abbrev pub texts_of : List Row → List ℕ → List (List ℕ)
texts_of f id = unwrap_or (all_of id f) []

-- whether a flag is set
abbrev pub is_set : List Row → List ℕ → Bool
is_set f id = option_map_or (λ t. bytes_eq t (codes "true")) (first_text f id) false

-- the values of `--color` and of `-Z`
abbrev pub colours : List ColorSetting
colours = Auto ∷ Always ∷ Never ∷ []

abbrev pub unstables : List UnstableFlags
unstables = UnstableOptions ∷ []

-- the names of these values (the Rust crate's)
abbrev pub colour_name : ColorSetting → List ℕ
colour_name Auto = codes "auto"
colour_name Always = codes "always"
colour_name Never = codes "never"

abbrev pub unstable_name : UnstableFlags → List ℕ
unstable_name UnstableOptions = codes "unstable-options"

-- the text is a whole number below 2^64 in decimal; it may begin with a plus (Rust's `usize::from_str`)
abbrev pub IsNumber : List ℕ → Type 0
IsNumber t = IsNumeral 10 (without_leading_plus t) × (digits_value 10 (without_leading_plus t) < 2 ^ 64)

-- r is the number in the text, and `None` if there is no text or it is no number
abbrev pub IsNumberOf : Option (List ℕ) → Option ℕ → Type 0
IsNumberOf None r = r ≡ None
IsNumberOf (Some t) (Some n) = IsNumber t × (n ≡ digits_value 10 (without_leading_plus t))
IsNumberOf (Some t) None = IsNumber t → ⊥

-- each field is what the matches hold for its id
pub record IsReadFrom (f : List Row) (a : Arguments) : Type 0 where
  pub include_ignored : a.include_ignored ≡ is_set f (codes "include-ignored")
  pub ignored : a.ignored ≡ is_set f (codes "ignored")
  pub test : a.test ≡ is_set f (codes "test")
  pub bench : a.bench ≡ is_set f (codes "bench")
  pub list : a.list ≡ is_set f (codes "list")
  pub nocapture : a.nocapture ≡ is_set f (codes "nocapture")
  pub show_output : a.show_output ≡ is_set f (codes "show-output")
  pub report_time : a.report_time ≡ is_set f (codes "report-time")
  pub exact : a.exact ≡ is_set f (codes "exact")
  pub quiet : a.quiet ≡ is_set f (codes "quiet")
  pub unstable_flags : a.unstable_flags
      ≡ option_and_then (named unstable_name unstables) (first_text f (codes "unstable"))
  pub test_threads : IsNumberOf (first_text f (codes "test-threads")) a.test_threads
  pub logfile : option_map string_bytes a.logfile ≡ first_text f (codes "logfile")
  pub skip : map string_bytes a.skip.items ≡ texts_of f (codes "skip")
  pub color : a.color ≡ option_and_then (named colour_name colours) (first_text f (codes "color"))
  pub format : a.format ≡ option_and_then (named format_name formats) (first_text f (codes "format"))
  pub filter : map string_bytes a.filter.items ≡ texts_of f (codes "filter")

-- each value that has a reader was accepted: the field is absent only if no value was given
pub record AreAccepted (f : List Row) (a : Arguments) : Type 0 where
  pub unstable : is_some (first_text f (codes "unstable")) ≡ is_some a.unstable_flags
  pub color : is_some (first_text f (codes "color")) ≡ is_some a.color
  pub format : is_some (first_text f (codes "format")) ≡ is_some a.format
  pub test_threads : is_some (first_text f (codes "test-threads")) ≡ is_some a.test_threads

-- whether tests and benchmarks are both asked for, or the terse format together with another (the Rust crate's)
abbrev pub asks_for_excluded : List Row → Bool
asks_for_excluded f = (is_set f (codes "test") && is_set f (codes "bench"))
    || (is_set f (codes "quiet") && is_some (first_text f (codes "format")))
