-- How the program ends: its exit status, and what its output has got then.
use Rattle.std.specs.Prelude.{◌≡◌, ◌⊎◌, ℕ, Bool, List, Option, IsNone, IsSome, if◌then◌else◌, Result, Ok, Err, IfOk, IfErr, nat_lt, ⊤}
use Rattle.libtest_mimic.specs.Prelude.{Arguments, Asked, asking, Conclusion, Gives, Trial, Watched}
use Rattle.libtest_mimic.specs.declared.running.RunError.{RunError}
use Rattle.mimic_args.specs.declared.error.ArgumentsError.{ArgumentsError}
use Rattle.mimic_args.specs.declared.error.ArgumentsError.TheVariants.{OutOfMemory, Help, Refused}
use Rattle.libtest_mimic.specs.CommandLine.{IsMeaningOf}
use Rattle.mimic_main.specs.declared.program.Fault.{Fault}
use Rattle.mimic_main.specs.declared.program.Fault.TheVariants.{Logfile, Run}
use Rattle.mimic_main.specs.declared.sharding.Sharding.{Sharding}
use Rattle.mimic_main.specs.declared.sharding.ShardError.{ShardError}
use Rattle.mimic_main.specs.declared.status.Status.{Status}
use Rattle.mimic_main.specs.Run.{GotBeginning, IsLawful, Ran}
use Rattle.mimic_main.specs.Sharding.{HasFilterOf, IsPartFault, IsReadSharding, trials_of}

-- the number that a process ends with if its `main` returns this
abbrev pub number_of : Status → ℕ
number_of status = status.number

-- 101 if a trial failed, 0 if none did, 1 if the run was refused: the statuses of the Rust crate, and 1 our own choice
abbrev pub status_of : Result Conclusion Fault → ℕ
status_of (Ok c) = if nat_lt 0 c.num_failed then 101 else 0
status_of (Err fault) = 1

-- 0 if help was asked for, 2 if the line was refused, 1 if an allocation failed
abbrev pub status_without : ArgumentsError → ℕ
status_without OutOfMemory = 1
status_without (Help text) = 0
status_without (Refused text) = 2

-- if the line gave no arguments, the output got nothing, unless help was asked for, about which nothing is claimed
abbrev pub GotWithout : ArgumentsError → Option (List ℕ) → Option (List ℕ) → Type 0
GotWithout OutOfMemory old got = got ≡ old
GotWithout (Help text) old got = ⊤
GotWithout (Refused text) old got = got ≡ old

-- the fault is that of a run, and P holds of it
abbrev pub IfOfRun : Fault → (RunError → Type 0) → Type 0
IfOfRun (Logfile error) P = ⊥
IfOfRun (Run fault) P = P fault

-- arguments were given by some words that mean them
abbrev pub IsReadLine : Result Arguments ArgumentsError → Type 0
IsReadLine line = IfOk line (λ args. (words : List (List ℕ)) × IsMeaningOf words args)

-- the status is that of an answer whose counts are lawful for these trials. Without a logfile it is that of a run with this watch,
-- and the output got all of its bytes, or if the answer is a fault a beginning of those of such a run; with one it got nothing
pub record RanLine {R : Type 0} (asked : Asked R) (old got : Option (List ℕ)) (watch : Watched) (status : ℕ) : Type 0 where
  pub answer : Result Conclusion Fault
  pub ended : status ≡ status_of answer
  pub ran : IsNone asked.args.logfile → IfOk answer (Ran asked old got watch)
  pub beginning : IsNone asked.args.logfile → IfErr answer (λ fault. IfOfRun fault (GotBeginning asked old got watch))
  pub nothing : IsSome asked.args.logfile → got ≡ old
  pub lawful : IfOk answer (IsLawful asked)

-- if the line gave arguments, the status is that of a run as they ask; else status and output say why there are none
abbrev pub Ended : {R : Type 0} → (Arguments → Asked R) → Result Arguments ArgumentsError → Option (List ℕ)
    → Option (List ℕ) → Watched → ℕ → Type 0
Ended ask (Ok args) old got watch status = RanLine (ask args) old got watch status
Ended ask (Err error) old got watch status = (status ≡ status_without error) × GotWithout error old got

-- the status is that of a run as the line asks, whatever its output and its watch hold
abbrev pub EndsSomehow : {R : Type 0} → (Arguments → Asked R) → Result Arguments ArgumentsError → ℕ → Type 0
EndsSomehow ask line status =
    (old : Option (List ℕ)) × (got : Option (List ℕ)) × (watch : Watched) × Ended ask line old got watch status

-- 2 if no part of the trials can be taken, 1 if an allocation failed
abbrev pub status_without_part : ShardError → ℕ
status_without_part ShardError.OutOfMemory = 1
status_without_part (ShardError.NotUtf8 name) = 2
status_without_part (ShardError.NoShard fault) = 2
status_without_part (ShardError.StatusFile path cause) = 2

-- the status is that of a run of the shard's trials, with the filter of the environment if these arguments have none, whatever its
-- output and its watch hold; or that of what is in its way
abbrev pub EndsInPart : {R : Type 0} → (List (Trial R) → Arguments → Asked R) → List (Trial R) → Arguments → Sharding → ℕ → Type 0
EndsInPart ask trials args sharding status =
    ((asked : Arguments) × HasFilterOf sharding.filter args asked × (old : Option (List ℕ)) × (got : Option (List ℕ)) × (watch : Watched)
    × RanLine (ask (trials_of sharding trials) asked) old got watch status)
    ⊎ ((error : ShardError) × IsPartFault sharding error × (status ≡ status_without_part error))

-- if the line gave no arguments, the status says why; else if the variables could not be read, it says that
abbrev pub EndsAsAsked : {R : Type 0} → (List (Trial R) → Arguments → Asked R) → List (Trial R) → Result Arguments ArgumentsError
    → Result Sharding ShardError → ℕ → Type 0
EndsAsAsked ask trials (Err error) sharding status = status ≡ status_without error
EndsAsAsked ask trials (Ok args) (Err error) status = status ≡ status_without_part error
EndsAsAsked ask trials (Ok args) (Ok sharding) status = EndsInPart ask trials args sharding status

-- the status is that of a program for this line and these variables, whatever the machine reports about threads and colours
abbrev pub EndsForLine : {R : Type 0} → Gives R → List (Trial R) → Result Arguments ArgumentsError → Result Sharding ShardError
    → ℕ → Type 0
EndsForLine gives trials line sharding status = (threads : ℕ) × (auto : Bool)
    × EndsAsAsked (asking gives threads auto) trials line sharding status

-- so ends a program as it reads some command line, of which nothing more is known
abbrev pub IsOfReadLine : (Result Arguments ArgumentsError → ℕ → Type 0) → ℕ → Type 0
IsOfReadLine Ends status = (line : Result Arguments ArgumentsError) × IsReadLine line × Ends line status

-- the status is that of a program as it reads some command line and some variables, of which nothing more is known, whatever the
-- machine reports about threads and colours
pub record EndsByLine {R : Type 0} (gives : Gives R) (trials : List (Trial R)) (status : ℕ) : Type 0 where
  pub line : Result Arguments ArgumentsError
  pub read : IsReadLine line
  pub sharding : Result Sharding ShardError
  pub variables : IsReadSharding sharding
  pub threads : ℕ
  pub auto : Bool
  pub ends : EndsAsAsked (asking gives threads auto) trials line sharding status
