-- Which answers runners promise, and which outcome an answer has.
use Rattle.std.specs.Prelude.{◌≡◌, ◌<◌, ◌^◌, ℕ, List, Option, None, Some, Result, Ok, Err, Bool, true, false, IfSome, IsUtf8}
use Rattle.std.specs.Bool.{MatchBool}
use Rattle.mimic_trial.specs.declared.runner.TestRunner.{TestRunner}
use Rattle.mimic_trial.specs.declared.runner.BenchRunner.{BenchRunner}
use Rattle.mimic_trial.specs.declared.runner.Runner.{Runner}
use Rattle.mimic_trial.specs.declared.runner.Runner.TheVariants.{Test, Bench}
use Rattle.mimic_trial.specs.declared.outcome.Measurement.{Measurement}
use Rattle.mimic_trial.specs.declared.outcome.Outcome.{Outcome}
use Rattle.mimic_trial.specs.declared.outcome.Outcome.TheVariants.{Passed, Failed, Ignored, Measured}
use Rattle.mimic_trial.specs.Failed.{not_measured_text}

-- In the signatures below X, F and g (for benchmarks Y, G and h) stand for the boxed closures: their types, and
-- what a call of each promises.

-- the answer is one that the test's runner promises
abbrev pub TestAnswers : {X : Type 0} {F : X → Type 0} {g : _} → TestRunner X F g → Result (Unit {0}) (Option (List ℕ))
    → Type 0
TestAnswers {X} {F} {g} t answer = g.post (t.boxed.vtable, t.boxed.value) tt answer

-- the answer is one that the benchmark's runner promises in this mode
abbrev pub BenchAnswers : {X : Type 0} {F : X → Type 0} {g : _} → BenchRunner X F g → Bool
    → Result (Option Measurement) (Option (List ℕ)) → Type 0
BenchAnswers {X} {F} {g} b test_mode answer = g.post (b.boxed.vtable, b.boxed.value) (test_mode, tt) answer

-- what a test returns: `Ok`, or a failure
abbrev pub Answer : Type 0
Answer = Result (Unit {0}) (Option (List ℕ))

-- the outcome of a test's answer (the Rust crate's `Trial::test`)
abbrev pub outcome_of_test : Answer → Outcome
outcome_of_test (Ok u) = Passed
outcome_of_test (Err f) = Failed f

-- the outcome of a benchmark's answer, by whether the mode is the test mode (the Rust crate's `Trial::bench`)
abbrev pub outcome_of_bench : Bool → Result (Option Measurement) (Option (List ℕ)) → Outcome
outcome_of_bench true (Ok m) = Passed
outcome_of_bench true (Err f) = Failed f
outcome_of_bench false (Ok (Some m)) = Measured m
outcome_of_bench false (Ok None) = Failed (Some not_measured_text)
outcome_of_bench false (Err f) = Failed f

-- what the types of an outcome hold: both numbers of a measurement are below 2^64, and a message is text (our own)
abbrev pub FitsTypes : Outcome → Type 0
FitsTypes Passed = Unit {0}
FitsTypes (Failed f) = IfSome f IsUtf8
FitsTypes Ignored = Unit {0}
FitsTypes (Measured m) = (m.avg < 2 ^ 64) × (m.variance < 2 ^ 64)

-- the outcome is that of an answer which the runner promises in this mode
abbrev pub PromisesOutcome : {X Y : Type 0} {F : X → Type 0} {G : Y → Type 0} {g : _} {h : _} → Runner X Y F G g h
    → Bool → Outcome → Type 0
PromisesOutcome (Test t) test_mode o = (answer : _) × TestAnswers t answer × (o ≡ outcome_of_test answer)
PromisesOutcome (Bench b) test_mode o = (answer : _) × BenchAnswers b test_mode answer
    × (o ≡ outcome_of_bench test_mode answer)

-- which outcomes a runner may give, by whether the mode is the test mode
abbrev pub Gives : Type 0 → Type 1
Gives R = R → Bool → Outcome → Type 0

-- what becomes of a runner: `Ignored` if it is ignored, else an outcome that it gives in this mode, with numbers that
-- fit (our own)
abbrev pub IsOutcomeOf : {R : Type 0} → Gives R → Bool → R → Bool → Outcome → Type 0
IsOutcomeOf gives ignored runner test_mode o = MatchBool ignored (o ≡ Ignored) (gives runner test_mode o × FitsTypes o)
