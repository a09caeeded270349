use Rattle.std.proofs.Common.{All}
use Rattle.std.specs.Arc.{arc_value}
use Rattle.std.specs.Vec.Iter.{into_iter_items, into_iter_len}
use Rattle.mimic_pool.specs.Queue.{HasAnswers, IsJob, RunsQueue}
use Rattle.mimic_pool.proofs.queue.join_queue_workers.Given as goal

abbrev pub invariant-loop-handle : goal.invariant-loop-handle
invariant-loop-handle g l = record {
  answered : (mode : _) (trials : _) → RunsQueue g.T.Task.gives l.fn.workers mode trials → HasAnswers g.T.Task.gives l.test_mode l.ended (into_iter_len l.handle-iterator) trials;
  jobs : All (IsJob (arc_value l.ended.queue).queue l.test_mode) (into_iter_items l.handle-iterator);
}
