-- A trial: what is known of it before it runs, and its runner.
use Rattle.std.specs.Prelude.{All, List}
use Rattle.mimic_trial.specs.declared.trial.TestInfo.{TestInfo}
use Rattle.mimic_trial.specs.declared.trial.Trial.{Trial}

-- what is known of the trial before it runs
abbrev pub info_of : {R : Type 0} → Trial R → TestInfo
info_of trial = trial.info

-- what runs it
abbrev pub runner_of : {R : Type 0} → Trial R → R
runner_of trial = trial.runner

-- each trial's runner may be run
abbrev pub AllCanRun : {R : Type 0} → (R → Type 0) → List (Trial R) → Type 0
AllCanRun can_run trials = All (λ t. can_run (runner_of t)) trials
