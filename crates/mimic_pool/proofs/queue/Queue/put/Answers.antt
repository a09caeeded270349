use Rattle.std.proofs.Common.{◌++◌, ◌∷◌, []}
use Rattle.mimic_pool.proofs.Dealing.{filled, on_ok}
use Rattle.mimic_pool.proofs.queue.Queue.put.Goals as goal

pub returns : goal.returns
returns g c = record {
  put = on_ok c.flush.result (λ flushed trials held. flushed (trials ++ c.args.item ∷ []) (filled g.T.Task.can_run c.args.self.now _ c.args.item trials c.in_ok-push.ensures.items c.requires.runnable held.filling)) c.flush.ensures.put;
  workers = c.flush.ensures.workers;
}
