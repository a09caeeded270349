use Rattle.std.proofs.Common.{map, refl, true}
use Rattle.mimic_pool.specs.Rows.{rows_in}
use Rattle.mimic_pool.proofs.Joining.{joined_whole}
use Rattle.mimic_pool.proofs.Placing.{have_places}
use Rattle.mimic_pool.proofs.waiting_trials.join_workers.Goals as goal

pub returns-in-Shares : goal.returns-in-Shares
returns-in-Shares g c =
    let joined = map rows_in c.join_share_workers.result.items in
    rw c.in-Shares.is (record {
      joined = c.join_share_workers.ensures.joined;
      places = λ mode rs bs runs. have_places g.T.Task.gives mode rs bs true joined (c.join_share_workers.ensures.joined mode _ runs);
      workers = c.join_share_workers.ensures.workers;
      shares = c.join_share_workers.ensures.shares;
      outcomes = λ mode rs bs runs all outcomes len. joined_whole g.T.Task.gives mode rs bs true joined (c.join_share_workers.ensures.joined mode _ runs) refl outcomes len;
    })

pub returns-in-Queue : goal.returns-in-Queue
returns-in-Queue g c =
    let joined = map rows_in c.join_queue_workers.result.items in
    rw c.in-Queue.is (record {
      joined = c.join_queue_workers.ensures.joined;
      places = λ mode rs bs runs. have_places g.T.Task.gives mode rs bs c.args.whole joined (c.join_queue_workers.ensures.joined mode _ runs);
      workers = tt;
      shares = λ mode rs bs runs. tt;
      outcomes = λ mode rs bs runs all outcomes len. joined_whole g.T.Task.gives mode rs bs c.args.whole joined (c.join_queue_workers.ensures.joined mode _ runs) all outcomes len;
    })
