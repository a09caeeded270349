use Rattle.mimic_pool.proofs.Balancing.{merges}
use Rattle.mimic_pool.proofs.shared_queue.SharedQueue.absorb.Goals as goal

pub absorb-requires-clause-rule : goal.absorb-requires-clause-rule
absorb-requires-clause-rule g c = merges g.T.Task.can_run _ _ _ _ c.requires.parts
