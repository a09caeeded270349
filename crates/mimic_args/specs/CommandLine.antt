-- The command line of a harness, as `clap` reads it: the options and how they are written, and what a line means.
use Rattle.std.specs.Prelude.{◌≡◌, ◌⊎◌, ◌++◌, ◌∷◌, [], Bool, false, true, flat_map, fold, List, map, Some, codes}
use Rattle.std.specs.Borrow.{Bor}
use Rattle.clap.specs.Words.{args_of, Kinds, fault_of}
use Rattle.clap.specs.Walk.{Rule, Text, rule_of, texts}
use Rattle.clap.specs.Simple.{App, app_of, matches_of, new_app, new_rule, with_rule}
use Rattle.clap.specs.declared.builder.action.ArgAction.TheVariants.{SetTrue, Append}
use Rattle.clap.specs.declared.builder.arg.Arg.{Arg}
use Rattle.clap.specs.declared.builder.command.Command.{Command}
use Rattle.clap.specs.declared.builder.value_parser.ValueParser.{ValueParser}
use Rattle.clap.specs.declared.builder.value_parser.ValueParser.TheVariants as vp
use Rattle.clap.specs.declared.error.kind.ErrorKind.{ErrorKind}
use Rattle.clap.specs.declared.error.kind.ErrorKind.TheVariants.{DisplayHelp}
use Rattle.mimic_args.specs.Matched.{IsReadFrom, AreAccepted, asks_for_excluded, colour_name, colours, unstable_name, unstables}
use Rattle.mimic_trial.specs.Formats.{format_name, formats}
use Rattle.mimic_args.specs.declared.Arguments.{Arguments}
use Rattle.mimic_args.specs.declared.error.ArgumentsError.{ArgumentsError}
use Rattle.mimic_args.specs.declared.error.ArgumentsError.TheVariants.{OutOfMemory, Help, Refused}

-- what is declared of an argument: how a parse reads it, and the ids of the arguments that no line may use with it (our own)
abbrev pub Declared : Type 0
Declared = Rule × List Text

-- what an argument declares (`clap`'s)
abbrev pub declared_of : Arg → Declared
declared_of a = (rule_of a, texts a.conflicts.items)

-- what an argument declares, and whether subcommands have it too (`clap`'s)
abbrev pub placed_of : Arg → Declared × Bool
placed_of a = (declared_of a, a.global)

-- a declaration for the command alone (our own)
abbrev pub local : Declared → Declared × Bool
local d = (d, false)

-- `new` has the arguments of `old`, and behind them some that have these declarations, each for the command alone (our own)
pub record AddsLocal (old : List Arg) (declared : List Declared) (new : List Arg) : Type 0 where
  pub same : map placed_of new ≡ map placed_of old ++ map local declared

-- what is declared of a command: how a parse reads it, and the pairs of its arguments that exclude one another, by their ids
-- (our own)
abbrev pub Options : Type 0
Options = App × List (Text × Text)

-- an id, paired with each of the others (our own)
abbrev pub pairs : Text → List Text → List (Text × Text)
pairs id others = map (λ other. (id, other)) others

-- what a command declares (`clap`'s)
abbrev pub options_of : Command → Options
options_of c = (app_of c, flat_map (λ a. pairs a.id.now (texts a.conflicts.items)) (args_of c))

-- an argument that excludes no other (our own)
abbrev pub alone : Rule → Declared
alone r = (r, [])

-- the argument with one more that it excludes: a line that uses both is refused (`clap`'s)
abbrev pub excluding : Declared → Text → Declared
excluding d other = (record d.0 { is_free = false }, d.1 ++ other ∷ [])

-- the argument with this reader for its values (`clap`'s)
abbrev pub read_by : ValueParser → Declared → Declared
read_by p d = (record d.0 { parser = Some p }, d.1)

-- a command with one more argument
unfoldable pub plus : Options → Declared → Options
plus c a = (with_rule c.0 a.0, c.1 ++ pairs a.0.id a.1)

-- a flag `--name`
abbrev pub flag_rule : Text → Rule
flag_rule name = record (new_rule name) { long = Some name; action = Some SetTrue }

-- a flag by its name, which is given with what help says of it (our own)
abbrev pub named_flag : Bor Text × Bor Text → Declared
named_flag named = alone (flag_rule named.0.now)

-- an option `--name VALUE`
abbrev pub option_rule : Text → Rule
option_rule name = record (new_rule name) { long = Some name; value_names = 1 }

-- `-Z VALUE`
abbrev pub unstable_rule : Rule
unstable_rule = record (new_rule (codes "unstable")) { short = Some 90; value_names = 1 }

-- `--test-threads N`, a whole number below 2^64
abbrev pub threads_rule : Rule
threads_rule = record (option_rule (codes "test-threads")) { parser = Some (vp.Unsigned 0 18446744073709551615) }

-- `--skip FILTER`, which may come many times
abbrev pub skip_rule : Rule
skip_rule = record (option_rule (codes "skip")) { action = Some Append }

-- the words that are no option, any number of them (our own: the Rust crate takes one)
abbrev pub filter_rule : Rule
filter_rule = record (new_rule (codes "filter")) { value_names = 1; action = Some Append }

-- `--test`
abbrev pub test_rule : Rule
test_rule = flag_rule (codes "test")

-- `--quiet`, also `-q`
abbrev pub quiet_rule : Rule
quiet_rule = record (flag_rule (codes "quiet")) { short = Some 113 }

-- `--color WHEN`
abbrev pub colour_rule : Rule
colour_rule = option_rule (codes "color")

-- `--format FORMAT`
abbrev pub format_rule : Rule
format_rule = option_rule (codes "format")

-- all flags, with these declarations of `--test` and `--quiet` (the Rust crate's, and `--report-time`, which rustc's harness has)
abbrev pub flags : Declared → Declared → List Declared
flags test quiet = alone (flag_rule (codes "include-ignored"))
    ∷ alone (flag_rule (codes "ignored"))
    ∷ test
    ∷ alone (flag_rule (codes "bench"))
    ∷ alone (flag_rule (codes "list"))
    ∷ alone (flag_rule (codes "nocapture"))
    ∷ alone (flag_rule (codes "show-output"))
    ∷ alone (flag_rule (codes "report-time"))
    ∷ alone (flag_rule (codes "exact"))
    ∷ quiet
    ∷ []

-- the options that have values, and the filters, with these readers of the values of `-Z`, `--color` and `--format`
abbrev pub valued : ValueParser → ValueParser → ValueParser → List Declared
valued unstable color format = read_by unstable (alone unstable_rule)
    ∷ alone threads_rule
    ∷ alone (option_rule (codes "logfile"))
    ∷ alone skip_rule
    ∷ read_by color (alone colour_rule)
    ∷ read_by format (alone format_rule)
    ∷ alone filter_rule
    ∷ []

-- all options, with these two flags and readers (the Rust crate's, but for `--report-time` and several filters)
abbrev pub options_with : Declared → Declared → ValueParser → ValueParser → ValueParser → Options
options_with test quiet unstable color format =
    fold plus (new_app (codes "harness"), []) (flags test quiet ++ valued unstable color format)

-- what a harness declares: `test` excludes `bench`, and `quiet`, also `-q`, excludes `format` (the Rust crate's)
abbrev pub harness_options : ValueParser → ValueParser → ValueParser → Options
harness_options = options_with (excluding (alone test_rule) (codes "bench")) (excluding (alone quiet_rule) (codes "format"))

-- the reader takes these texts and no other (`clap`'s)
abbrev pub TakesOnly : List Text → ValueParser → Type 0
TakesOnly names p = (listed : Bor (List (Bor Text))) × (p ≡ vp.Names listed) × (texts listed.now ≡ names)

-- a value behind a reference, whose address does not matter (our own)
abbrev pub behind : {X : Type 0} → X → Bor X
behind x = record { ref_ptr = (0, 0); now = x }

-- the reader that takes these texts and no other (`clap`'s)
abbrev pub reader_of : List Text → ValueParser
reader_of names = vp.Names (behind (map behind names))

-- the declaration is the argument's, with a reader that takes these texts and no other (our own)
abbrev pub ReadsOnly : List Text → Declared → Declared → Type 0
ReadsOnly names argument d = (p : ValueParser) × TakesOnly names p × (d ≡ read_by p argument)

-- the readers of the values of `-Z`, `--color` and `--format` (the Rust crate's)
pub record AreReaders (u c f : ValueParser) : Type 0 where
  pub unstable : TakesOnly (map unstable_name unstables) u
  pub color : TakesOnly (map colour_name colours) c
  pub format : TakesOnly (map format_name formats) f

-- the options that a line is parsed with: those of a harness, but none excludes another (our own)
abbrev pub line_options : App
line_options = (options_with (alone test_rule) (alone quiet_rule) (reader_of (map unstable_name unstables))
    (reader_of (map colour_name colours)) (reader_of (map format_name formats))).0

-- the arguments are what the line means: by `clap`'s own definitions the line has no fault, and each field is what the words
-- hold for its id; every value was accepted; and the line doesn't ask for two options that exclude one another
pub record IsMeaningOf (words : List Text) (a : Arguments) : Type 0 where
  pub no_fault : fault_of line_options words ≡ []
  pub fields : IsReadFrom (matches_of line_options words) a
  pub accepted : AreAccepted (matches_of line_options words) a
  pub no_excluded : asks_for_excluded (matches_of line_options words) ≡ false

-- `clap` finds a fault in the line, and the first one is no call for help (`clap`'s)
abbrev pub HasFault : Kinds → Type 0
HasFault kinds = (k : ErrorKind) × (kinds ≡ k ∷ []) × (k ≡ DisplayHelp → ⊥)

-- a line has no other fault, but asks for two options that exclude one another (the Rust crate's)
abbrev pub IsExcluded : List Text → Type 0
IsExcluded words = (fault_of line_options words ≡ []) × (asks_for_excluded (matches_of line_options words) ≡ true)

-- why a line gives no arguments: an allocation failed; its first fault is a call for help; its first fault is another
-- one; or it has no fault, but asks for two options that exclude one another
abbrev pub IsRefusalOf : List Text → ArgumentsError → Type 0
IsRefusalOf words OutOfMemory = Unit {0}
IsRefusalOf words (Help text) = fault_of line_options words ≡ DisplayHelp ∷ []
IsRefusalOf words (Refused text) = HasFault (fault_of line_options words) ⊎ IsExcluded words

-- the error of a line that gave no arguments: `OutOfMemory` only if an allocation failed, `Help` only if help was asked for,
-- and `Refused` only if neither holds (our own)
abbrev pub IsErrorFor : Type 0 → Type 0 → ArgumentsError → Type 0
IsErrorFor memory help OutOfMemory = memory
IsErrorFor memory help (Help text) = help
IsErrorFor memory help (Refused text) = (memory → ⊥) × (help → ⊥)
