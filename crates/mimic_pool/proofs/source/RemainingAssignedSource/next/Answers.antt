use Rattle.mimic_pool.proofs.Sources.{first_may_run, rest_may_run}
use Rattle.mimic_pool.proofs.source.RemainingAssignedSource.next.Goals as goal

pub returns-clause-next : goal.returns-clause-next
returns-clause-next g c = first_may_run g.T.Task.can_run c.next.result _ _ c.next.ensures c.requires.ready.0

pub returns-clause-ready : goal.returns-clause-ready
returns-clause-ready g c = rest_may_run g.T.Task.can_run c.next.result _ _ _ c.next.ensures c.requires.ready
