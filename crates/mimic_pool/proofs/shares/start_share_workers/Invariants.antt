use Rattle.std.proofs.Common.{◌≡◌, ◌+◌, ◌≤◌, ◌++◌, All, map, vec_capacity, vec_len}
use Rattle.std.specs.Vec.Iter.{into_iter_items, into_iter_len}
use Rattle.mimic_pool.specs.Prelude.{AllRunners, job_of, jobs_of, shares_of}
use Rattle.mimic_pool.proofs.shares.start_share_workers.Given as goal

abbrev pub invariant-loop-worker : goal.invariant-loop-worker
invariant-loop-worker g l = record {
  jobs : map job_of l.handles.items ++ jobs_of l.test_mode (shares_of (into_iter_items l.worker-iterator)) ≡ jobs_of l.test_mode (shares_of l.fn.ready.workers.items);
  fits : vec_len l.handles + into_iter_len l.worker-iterator ≤ vec_capacity l.handles;
  fits_joined : vec_len l.handles + into_iter_len l.worker-iterator ≤ vec_capacity l.fn.ready.joined;
  each : vec_len l.handles + into_iter_len l.worker-iterator ≡ vec_len l.fn.ready.workers;
  runnable : All (λ share. AllRunners g.T.Task.can_run share) (shares_of (into_iter_items l.worker-iterator));
}
