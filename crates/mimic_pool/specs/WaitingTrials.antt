-- Trials on their way to workers: put, ready to be run, and run.
use Rattle.std.specs.Prelude.{ℕ, Bool, List, false, true, vec_len}
use Rattle.mimic_trial.specs.Promise.{Gives}
use Rattle.mimic_pool.specs.Queue.{AreReadyQueueWorkers, HoldsQueue, RunsQueue}
use Rattle.mimic_pool.specs.Shares.{AreDealt, RunsShares, shares_of}
use Rattle.mimic_pool.specs.declared.share.Assigned.{Assigned}
use Rattle.mimic_pool.specs.declared.waiting_trials.Workers.{Workers}
use Rattle.mimic_pool.specs.declared.waiting_trials.Workers.TheVariants as workers
use Rattle.mimic_pool.specs.declared.waiting_trials.ReadyWorkers.{ReadyWorkers}
use Rattle.mimic_pool.specs.declared.waiting_trials.ReadyWorkers.TheVariants as ready
use Rattle.mimic_pool.specs.declared.waiting_trials.WaitingTrials.{WaitingTrials}
use Rattle.mimic_pool.specs.declared.waiting_trials.WaitingTrials.TheVariants as waiting

module _ {X : Type 0} where
  -- these trials were put, in their order, and each may be run
  abbrev pub Holds : (X → Type 0) → WaitingTrials X → List (Assigned X) → Type 0
  Holds can_run (waiting.Shares shares) trials = AreDealt can_run shares.items trials
  Holds can_run (waiting.Queue queue) trials = HoldsQueue can_run queue trials

  -- how many workers the trials wait for
  abbrev pub awaited : WaitingTrials X → ℕ
  awaited (waiting.Shares shares) = vec_len shares
  awaited (waiting.Queue queue) = queue.workers

  -- workers can be started for these trials
  abbrev pub AreReady : (X → Type 0) → ReadyWorkers X → List (Assigned X) → Type 0
  AreReady can_run (ready.Shares made) trials = AreDealt can_run (shares_of made.workers.items) trials
  AreReady can_run (ready.Queue made) trials = AreReadyQueueWorkers made trials

  -- how many workers can be started
  abbrev pub workers_of : ReadyWorkers X → ℕ
  workers_of (ready.Shares made) = vec_len made.workers
  workers_of (ready.Queue made) = vec_len made.workers

  -- how many workers were started
  abbrev pub started_in : Workers X → ℕ
  started_in (workers.Shares started) = vec_len started.handles
  started_in (workers.Queue started) = vec_len started.handles

  -- workers were started for these trials in this mode
  abbrev pub Runs : Gives X → Workers X → Bool → List (Assigned X) → Type 0
  Runs gives (workers.Shares started) mode trials = RunsShares started mode trials
  Runs gives (workers.Queue started) mode trials = RunsQueue gives started mode trials

  -- whether the workers run all trials, also if not all are to be run
  abbrev pub runs_all : Workers X → Bool
  runs_all (workers.Shares started) = true
  runs_all (workers.Queue started) = false

  -- P holds if the workers run shares
  abbrev pub OnShares : Workers X → Type 0 → Type 0
  OnShares (workers.Shares started) P = P
  OnShares (workers.Queue started) P = Unit {0}
