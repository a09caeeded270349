use Rattle.std.proofs.Common.{◌≡◌, ◌+◌, ◌≤◌, map, vec_capacity, vec_len}
use Rattle.std.specs.Vec.Iter.{into_iter_items, into_iter_len}
use Rattle.mimic_pool.specs.Prelude.{job_of, rows_in}
use Rattle.mimic_pool.proofs.Sharing.{LeavesJobs}
use Rattle.mimic_pool.proofs.shares.join_share_workers.Given as goal

abbrev pub invariant-loop-handle : goal.invariant-loop-handle
invariant-loop-handle g l = record {
  answered : LeavesJobs g.T.Task.gives (map job_of l.fn.workers.handles.items) (map rows_in l.joined.items) (map job_of (into_iter_items l.handle-iterator));
  each : vec_len l.joined + into_iter_len l.handle-iterator ≡ vec_len l.fn.workers.handles;
  fits : vec_len l.joined + into_iter_len l.handle-iterator ≤ vec_capacity l.joined;
}
