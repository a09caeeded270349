use Rattle.mimic_pool.proofs.Balancing.{learns, takes}
use Rattle.mimic_pool.proofs.shared_queue.SharedQueue.take.Goals as goal

pub pop_as-requires-clause-rule : goal.pop_as-requires-clause-rule
pop_as-requires-clause-rule g c = (takes g.T.Task.can_run _ _ c.requires.parts, learns g.T.Task.can_run _ _)
