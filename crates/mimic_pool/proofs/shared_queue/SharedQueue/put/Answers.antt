use Rattle.mimic_pool.proofs.Balancing.{puts}
use Rattle.mimic_pool.proofs.shared_queue.SharedQueue.put.Goals as goal

pub push_as-requires-clause-rule : goal.push_as-requires-clause-rule
push_as-requires-clause-rule g c n = puts g.T.Task.can_run n _ _ _ c.requires.parts c.requires.item
