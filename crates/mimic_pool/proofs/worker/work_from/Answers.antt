use Rattle.std.proofs.Common.{◌∙◌, ◌++◌, ◌∷◌, [], ap, arith, length, length-append, refl, rules}
use Rattle.mimic_trial.specs.Places.{Placed}
use Rattle.mimic_pool.proofs.Working.{worked_next, worked_none, worked_whole}
use Rattle.mimic_pool.proofs.worker.work_from.Goals as goal

pub loop-item-init : goal.loop-item-init
loop-item-init g c = record {
  ready = c.requires.ready;
  worked = worked_none g.T.Task.gives c.args.test_mode g.S.Source.goes_on g.met.S.Source.joins (g.R.Reports.heard c.args.reports.now) c.args.source (g.O.RowBuffer.rows_in c.args.buffer) (g.met.S.Source.stays c.args.source);
  can_tell = c.requires.told;
  can_refuse = c.requires.refusals;
  counted = refl;
  room = search rules;
}

pub loop-item-preserved : goal.loop-item-preserved
loop-item-preserved g c =
    let before = c.loop-item.invariant in
    let next = c.in-Some.ensures in
    let rows = g.O.RowBuffer.rows_in c.loop-item.buffer in
    let row : Placed = (c.in-Some.item.place, c.run_unless-outcome.result) in
    let pushed = c.put.ensures.rows ∙ ap (λ l. l ++ row ∷ []) next.rows in
    let longer = ap length pushed ∙ length-append rows (row ∷ []) in
    record {
      ready = next.ready (g.O.RowBuffer.room_in c.put.new.self) c.put.ensures.room;
      worked = worked_next g.T.Task.gives c.args.test_mode g.S.Source.goes_on g.met.S.Source.joins (g.R.Reports.heard c.args.reports.now) (g.R.Reports.heard c.loop-item.reports) (g.R.Reports.heard c.tell.new.self) c.args.source c.loop-item.source c.next.new.self (g.O.RowBuffer.rows_in c.args.buffer) rows (g.O.RowBuffer.rows_in c.put.new.self) c.in-Some.item row pushed refl c.run_unless-outcome.ensures c.tell.ensures.heard next.next.0 before.worked;
      can_tell = search rules;
      can_refuse = search rules;
      counted = search rules;
      room = omega (arith, before.room, next.as_much, c.put.ensures.room, longer);
    }

pub returns-clause-worked : goal.returns-clause-worked
returns-clause-worked g c = worked_whole g.T.Task.gives c.args.test_mode g.S.Source.goes_on g.met.S.Source.joins (g.R.Reports.heard c.args.reports.now) (g.R.Reports.heard c.loop-item.reports) c.args.source c.loop-item.source c.next.new.self (g.O.RowBuffer.rows_in c.args.buffer) (g.O.RowBuffer.rows_in c.loop-item.buffer) (g.O.RowBuffer.rows_in c.next.new.buffer) c.next.ensures.rows c.in_default.ensures.none.0 c.loop-item.invariant.worked
