-- The suite that a run goes through: the trials that are selected of those handed in, and how their report is printed.
use Rattle.std.specs.Prelude.{◌≡◌, ℕ, ◌-◌, ◌^◌, ◌<◌, ◌&&◌, Bool, true, false, IsSomeAnd, List, length, None, Option}
use Rattle.std.specs.List.{AllZip, range_with_len}
use Rattle.mimic_args.specs.declared.Arguments.{Arguments}
use Rattle.mimic_args.specs.Arguments.{colours_of, format_of}
use Rattle.mimic_printer.specs.declared.Printer.{Printer}
use Rattle.mimic_trial.specs.declared.outcome.Outcome.{Outcome}
use Rattle.mimic_trial.specs.declared.outcome.Outcome.TheVariants.{Passed, Failed, Ignored, Measured}
use Rattle.mimic_printer.specs.Widths.{kind_width_of, name_width_of}
use Rattle.mimic_trial.specs.declared.trial.Trial.{Trial}
use Rattle.mimic_trial.specs.Places.{Placed}
use Rattle.mimic_trial.specs.Promise.{Gives}
use Rattle.mimic_printer.specs.Row.{rows_at, Label, PrintedRow, labels_of}
use Rattle.libtest_mimic.specs.Selection.{IsSelection}

-- the printer of a run: the format and the colours that the arguments ask for, and columns as wide as the trials need
-- (the Rust crate's)
abbrev pub printer_for : Arguments → Bool → List Label → Printer
printer_for args auto_colours labels = record {
  format = format_of args;
  colour = colours_of args auto_colours;
  name_width = name_width_of labels;
  kind_width = kind_width_of labels;
}

-- what a run is about: which outcomes its runners may give, what is asked of it, the trials that are handed in, and what holds if
-- the arguments leave it open: how many threads run them, and whether their report has colours
pub record Asked (R : Type 0) : Type 1 where
  pub gives : Gives R
  pub args : Arguments
  pub trials : List (Trial R)
  pub default_threads : ℕ
  pub auto_colours : Bool

-- what is asked of a run of these trials by such arguments
abbrev pub asking : {R : Type 0} → Gives R → ℕ → Bool → List (Trial R) → Arguments → Asked R
asking gives default_threads auto_colours trials args = record {
  gives = gives;
  args = args;
  trials = trials;
  default_threads = default_threads;
  auto_colours = auto_colours;
}

-- a suite: what is asked, the selected trials, the printer of their report, and how many trials were filtered out
pub record Suite (R : Type 0) : Type 0 where
  pub args : Arguments
  pub trials : List (Trial R)
  pub printer : Printer
  pub filtered_out : ℕ

-- the suite of selected trials; the caller says whether there are colours if the arguments leave it open
abbrev pub suite_of : {R : Type 0} → Arguments → Bool → List (Trial R) → ℕ → Suite R
suite_of args auto_colours selected filtered_out = record {
  args = args;
  trials = selected;
  printer = printer_for args auto_colours (labels_of selected);
  filtered_out = filtered_out;
}

-- how many trials were filtered out: those that were handed in and are not selected
abbrev pub filtered_out_of : {A : Type 0} → List A → List A → ℕ
filtered_out_of trials selected = length trials - length selected

-- P holds of the suite of the trials that are selected of those that a run is asked for; the others are filtered out
abbrev pub OfAsked : {R : Type 0} → Asked R → (Suite R → Type 0) → Type 0
OfAsked {R} asked P = (selected : List (Trial R)) × IsSelection asked.args asked.trials selected
    × P (suite_of asked.args asked.auto_colours selected (filtered_out_of asked.trials selected))

-- the places of the suite's trials in their order: 0, 1, ..
abbrev pub in_order : {R : Type 0} → Suite R → List ℕ
in_order suite = range_with_len 0 (length suite.trials)

-- the rows of outcomes at places of the suite, without times
abbrev pub rows_of : {R : Type 0} → Suite R → List Placed → List PrintedRow
rows_of suite placed = rows_at (labels_of suite.trials) placed

-- ---- times

-- whether the row of such an outcome says how long its trial ran, if times are asked for: those that passed or failed do (as in
-- rustc's harness)
abbrev pub has_time : Outcome → Bool
has_time Passed = true
has_time (Failed f) = true
has_time Ignored = false
has_time (Measured m) = false

-- there is a time, below 2^64 nanoseconds, if there is to be one, and else there is none
abbrev pub IsTime : Bool → Option ℕ → Type 0
IsTime true time = IsSomeAnd time (λ nanos. nanos < 2 ^ 64)
IsTime false time = time ≡ None

-- the row is this one without a time, but for a time if times are asked for and its outcome has one
pub record IsTimed (asked : Bool) (plain row : PrintedRow) : Type 0 where
  pub label : row.label ≡ plain.label
  pub outcome : row.outcome ≡ plain.outcome
  pub time : IsTime (asked && has_time plain.outcome) row.nanos

-- the rows are these, one after another, each with a time as asked
abbrev pub AreTimed : Bool → List PrintedRow → List PrintedRow → Type 0
AreTimed asked plains rows = AllZip (IsTimed asked) plains rows
