use Rattle.std.proofs.Common.{◌≡◌, length}
use Rattle.libtest_mimic.specs.Prelude.{AllCanRun, awaited}
use Rattle.libtest_mimic.proofs.Supplying.{IsPutSoFar}
use Rattle.libtest_mimic.proofs.running.in_workers.take_apart.Given as goal

abbrev pub invariant-loop-trial : goal.invariant-loop-trial
invariant-loop-trial g l = record {
  supplied : IsPutSoFar g.R.Task.can_run l.args l.fn.trials.items l.left l.infos.items l.waiting;
  runnable : AllCanRun g.R.Task.can_run l.left;
  workers : awaited l.waiting ≡ awaited l.fn.waiting;
}

-- the trials that are left
abbrev pub decreases-loop-trial : goal.decreases-loop-trial
decreases-loop-trial g l = length l.left
