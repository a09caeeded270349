use Rattle.std.proofs.Common.{◌≡◌, ◌∙◌, ◌-◌, rules}
use Rattle.std.specs.Arc.{arc_value}
use Rattle.crossbeam_queue.specs.SegTies.{IsSegPassOf}
use Rattle.mimic_pool.specs.Prelude.{account_of, IsFresh, ReadyQueueWorker}
use Rattle.mimic_pool.proofs.Accounts.{fields_of}
use Rattle.mimic_pool.proofs.Elements.{with_one}
use Rattle.mimic_pool.proofs.queue.workers_at_queue.Goals as goal

pub loop-number-preserved : goal.loop-number-preserved
loop-number-preserved g c =
    let was = c.loop-number.invariant in
    let old = account_of c.loop-number.pass in
    let left = fields_of (account_of c.another.new.pass) (old.parts - 1) old.put old.taken c.another.ensures.left in
    let queue = (arc_value c.args.queue.now).queue in
    let same : (arc_value c.in_ok-shared.shared).queue ≡ queue = search rules in
    let ours : IsSegPassOf (arc_value c.in_ok-shared.shared).queue c.another.result = search rules in
    let worker : ReadyQueueWorker _ = record { queue = c.in_ok-shared.shared; pass = c.another.result; rows = c.in_ok-rows.rows; board = c.in_ok-board.board; number = c.loop-number.number; budget = c.saturating_add-budget.result } in
    let fresh : IsFresh queue worker = record { same = same; ours = ours; fresh = c.another.ensures.new; empty = c.in_ok-rows.ensures.empty } in
    record {
      ours = search rules;
      len = search rules;
      fits = search rules;
      parts = search rules;
      put = left.put_is ∙ was.put;
      taken = left.taken_is ∙ was.taken;
      fresh = with_one (IsFresh queue) worker c.loop-number.ready.items c.push_reserved.new.self.items
          c.push_reserved.ensures.items was.fresh fresh;
    }
