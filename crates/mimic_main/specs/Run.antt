-- What a run into a buffered writer returns, and what that writer has got.
use Rattle.std.specs.Prelude.{◌≡◌, ℕ, List, [], length, Option, Result, Ok, Err, true, false}
use Rattle.libtest_mimic.specs.Prelude.{Asked, Conclusion, counts_of, Done, HasAnswer, IsRunning, Lists, OfAsked, Shown, threads_of, total_of, Watched}
use Rattle.libtest_mimic.specs.declared.running.RunError.{RunError}
use Rattle.std.specs.declared.io.Error.{Error}
use Rattle.mimic_printer.specs.declared.sink.WriteFault.TheVariants as WriteFault
use Rattle.libtest_mimic.specs.declared.running.RunError.TheVariants.{Write}
use Rattle.libtest_mimic.specs.Run.{RunsBy}
use Rattle.mimic_main.specs.Output.{HandsOn}

-- what a sink over these bytes shows if it has counted no fault
abbrev pub faultless : Option (List ℕ) → Shown
faultless bytes = record { bytes = bytes; faults = 0 }

-- the fault is that of a run; if the run had none, it is a write fault, of any error
abbrev pub IsFaultOf : Result Conclusion RunError → RunError → Type 0
IsFaultOf (Ok c) fault = (error : Error) × (fault ≡ Write (WriteFault.Error error))
IsFaultOf (Err e) fault = fault ≡ e

-- what a run did whose writer had these bytes, and whose sink shows this in the end
abbrev pub done_over : Option (List ℕ) → Shown → Watched → Result Conclusion RunError → Done
done_over old new watch answer = record {
  before = faultless old;
  after = new;
  watch = watch;
  answer = answer;
}

-- what a run left: the list of the selected trials if one is asked, and a running watch; else their report, with the time of the
-- watch; or what is left if either was refused
pub record Left {R : Type 0} (asked : Asked R) (did : Done) : Type 0 where
  pub listed : asked.args.list ≡ true → OfAsked asked (λ suite. Lists suite.trials did.before did.after did.answer)
  pub watched : asked.args.list ≡ true → IsRunning did.watch
  pub reported : RunsBy (threads_of asked.args asked.default_threads) asked did

-- a run with this watch gave this answer, and brought the writer from the old bytes to the new ones
abbrev pub Ran : {R : Type 0} → Asked R → Option (List ℕ) → Option (List ℕ) → Watched → Conclusion → Type 0
Ran asked old new watch c = Left asked (done_over old (faultless new) watch (Ok c))

-- the writer got a beginning of the bytes that were there and of what some run with this watch left after them in its sink, and
-- this is the fault of that run
abbrev pub GotBeginning : {R : Type 0} → Asked R → Option (List ℕ) → Option (List ℕ) → Watched → RunError → Type 0
GotBeginning asked old got watch fault =
    (left : Shown) × (answer : Result Conclusion RunError) × Left asked (done_over old left watch answer)
    × HandsOn left.bytes got × IsFaultOf answer fault

-- the counts that a run may answer if it is asked for this: five zeros after a list; else, if each selected trial has just one own
-- outcome, the counts of those; and in all as many as there are trials
pub record IsLawful {R : Type 0} (asked : Asked R) (c : Conclusion) : Type 0 where
  pub listed : asked.args.list ≡ true → c ≡ counts_of [] 0
  pub answer : HasAnswer asked (Ok c)
  pub adds_up : asked.args.list ≡ false → total_of c ≡ length asked.trials
