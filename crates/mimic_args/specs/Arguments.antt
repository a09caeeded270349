-- What the arguments of a run ask for.
use Rattle.std.specs.Prelude.{◌≡◌, ℕ, Bool, true, false, if◌then◌else◌, [], None, unwrap_or, is_none, ◌&&◌, map, option_map, string_bytes}
use Rattle.mimic_args.specs.declared.Arguments.{Arguments}
use Rattle.mimic_args.specs.declared.ColorSetting.{ColorSetting}
use Rattle.mimic_args.specs.declared.ColorSetting.TheVariants.{Auto, Always, Never}
use Rattle.mimic_trial.specs.declared.formats.FormatSetting.{FormatSetting}
use Rattle.mimic_trial.specs.declared.formats.FormatSetting.TheVariants.{Pretty, Terse}

-- the format of a report: terse with `quiet`, else what is set, else pretty (the Rust crate's)
abbrev pub format_of : Arguments → FormatSetting
format_of args = if args.quiet then Terse else unwrap_or args.format Pretty

-- whether a setting asks for colours; `Auto` leaves it to `unset`
abbrev pub setting_colours : ColorSetting → Bool → Bool
setting_colours Auto unset = unset
setting_colours Always unset = true
setting_colours Never unset = false

-- whether a report has colours: `Always` yes, `Never` no, else exactly if `auto` is true and no logfile is set
-- (the Rust crate's, but the caller tests for a terminal)
abbrev pub colours_of : Arguments → Bool → Bool
colours_of args auto = setting_colours (unwrap_or args.color Auto) (auto && is_none args.logfile)

-- how many threads run the trials: `test_threads`, else `default_threads` (our own)
abbrev pub threads_of : Arguments → ℕ → ℕ
threads_of args default_threads = unwrap_or args.test_threads default_threads

-- each flag is false, each option is not set, and there is no filter and nothing is skipped
pub record AsksNothing (args : Arguments) : Type 0 where
  pub include_ignored : args.include_ignored ≡ false
  pub ignored : args.ignored ≡ false
  pub test : args.test ≡ false
  pub bench : args.bench ≡ false
  pub list : args.list ≡ false
  pub nocapture : args.nocapture ≡ false
  pub show_output : args.show_output ≡ false
  pub report_time : args.report_time ≡ false
  pub unstable_flags : args.unstable_flags ≡ None
  pub exact : args.exact ≡ false
  pub quiet : args.quiet ≡ false
  pub test_threads : args.test_threads ≡ None
  pub logfile : args.logfile ≡ None
  pub skip : args.skip.items ≡ []
  pub color : args.color ≡ None
  pub format : args.format ≡ None
  pub filter : args.filter.items ≡ []

-- the fields are the same, texts by their bytes
pub record HasSameFields (old new : Arguments) : Type 0 where
  pub include_ignored : new.include_ignored ≡ old.include_ignored
  pub ignored : new.ignored ≡ old.ignored
  pub test : new.test ≡ old.test
  pub bench : new.bench ≡ old.bench
  pub list : new.list ≡ old.list
  pub nocapture : new.nocapture ≡ old.nocapture
  pub show_output : new.show_output ≡ old.show_output
  pub report_time : new.report_time ≡ old.report_time
  pub unstable_flags : new.unstable_flags ≡ old.unstable_flags
  pub exact : new.exact ≡ old.exact
  pub quiet : new.quiet ≡ old.quiet
  pub test_threads : new.test_threads ≡ old.test_threads
  pub logfile : option_map string_bytes new.logfile ≡ option_map string_bytes old.logfile
  pub skip : map string_bytes new.skip.items ≡ map string_bytes old.skip.items
  pub color : new.color ≡ old.color
  pub format : new.format ≡ old.format
  pub filter : map string_bytes new.filter.items ≡ map string_bytes old.filter.items
