use Rattle.std.proofs.Common.{◌∙◌, ◌++◌, ap, append-nil, rules, sym}
use Rattle.mimic_pool.specs.Prelude.{account_of, empty_board}
use Rattle.mimic_pool.proofs.queue.prepare_queue_workers.Goals as goal

pub workers_at_queue-requires-clause-ours : goal.workers_at_queue-requires-clause-ours
workers_at_queue-requires-clause-ours g c = (c.in_ok-flush.ensures.put c.requires.held.0 c.requires.held.1.filling).filling.ours

pub workers_at_queue-requires-clause-parts : goal.workers_at_queue-requires-clause-parts
workers_at_queue-requires-clause-parts g c = (c.in_ok-flush.ensures.put c.requires.held.0 c.requires.held.1.filling).filling.parts

pub workers_at_queue-requires-clause-some_worker : goal.workers_at_queue-requires-clause-some_worker
workers_at_queue-requires-clause-some_worker g c = (c.in_ok-flush.ensures.put c.requires.held.0 c.requires.held.1.filling).filling.workers

pub returns : goal.returns
returns g c =
    let workers = c.in_ok-workers.ensures in
    let put = (account_of c.flush.new.self.pass).put in
    record {
      inbox = c.in_ok-inbox.ensures.board ∙ ap (empty_board c.args.count) (sym workers.len);
      timed = c.in_ok-inbox.ensures.timed;
      workers = workers.len ∙ c.in_ok-flush.ensures.workers;
      ready = λ trials fits held.
          let filling = (c.in_ok-flush.ensures.put trials held.filling).filling in
          record {
            awaits = record {
              ours = workers.ours;
              some_part = workers.some_part;
              parts = workers.parts;
              put = workers.put ∙ sym (append-nil put) ∙ ap (λ l. put ++ l) (sym c.in_ok-flush.ensures.empty) ∙ filling.put;
              fits = search rules;
              no_rows = search rules;
              fits_rows = search rules;
            };
            none_taken = workers.taken ∙ filling.none_taken;
            none_joined = search rules;
            fresh = workers.fresh;
            no_handles = search rules;
            fits = search rules;
          };
    }
