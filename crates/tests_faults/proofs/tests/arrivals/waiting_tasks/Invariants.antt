use Rattle.std.proofs.Common.{◌≡◌, List, length}
use Rattle.mimic_pool.specs.WaitingTrials.{Holds}
use Rattle.mimic_pool.specs.declared.share.Assigned.{Assigned}
use Rattle.tests_faults.proofs.tests.arrivals.waiting_tasks.Given as goal

abbrev pub invariant-loop-place : goal.invariant-loop-place
invariant-loop-place g l = record {
  held : List (Assigned _);
  here : length held ≡ l.place;
  holds : Holds g.T.Task.can_run l.waiting held;
}
