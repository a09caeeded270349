use Rattle.std.proofs.Common.{◌+◌, ◌≤◌, All, vec_capacity, vec_len}
use Rattle.std.specs.Arc.{arc_value}
use Rattle.std.specs.Vec.Iter.{into_iter_items, into_iter_len}
use Rattle.mimic_pool.specs.Queue.{AreReadyQueueWorkers, HasAnswers, IsFresh, IsJob}
use Rattle.mimic_pool.proofs.queue.start_queue_workers.Given as goal

abbrev pub invariant-loop-worker : goal.invariant-loop-worker
invariant-loop-worker g l = record {
  answered : (trials : _) → AreReadyQueueWorkers l.fn.ready trials → HasAnswers g.T.Task.gives l.test_mode l.ended (vec_len l.handles + into_iter_len l.worker-iterator) trials;
  jobs : All (IsJob (arc_value l.ended.queue).queue l.test_mode) l.handles.items;
  left : All (IsFresh (arc_value l.ended.queue).queue) (into_iter_items l.worker-iterator);
  fits : vec_len l.handles + into_iter_len l.worker-iterator ≤ vec_capacity l.handles;
  no_more : vec_len l.handles + into_iter_len l.worker-iterator ≤ vec_len l.fn.ready.workers;
}
