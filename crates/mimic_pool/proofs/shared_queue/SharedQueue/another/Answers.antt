use Rattle.mimic_pool.proofs.Balancing.{forks}
use Rattle.mimic_pool.proofs.shared_queue.SharedQueue.another.Goals as goal

pub another-requires-clause-rule : goal.another-requires-clause-rule
another-requires-clause-rule g c = forks g.T.Task.can_run _ _ c.requires.parts
