use Rattle.std.proofs.Common.{◌≡◌, ◌+◌, ◌^◌, ◌<◌, ◌≤◌, length}
use Rattle.mimic_pool.specs.Answers.{HasWorked}
use Rattle.mimic_pool.proofs.worker.work_from.Given as goal

abbrev pub invariant-loop-item : goal.invariant-loop-item
invariant-loop-item g l =
    let most = g.S.Source.most l.source in
    let told = g.R.Reports.told_of l.reports in
    let refused = g.R.Reports.refused_by l.reports in
    let first = g.O.RowBuffer.rows_in l.fn.buffer in
    let rows = g.O.RowBuffer.rows_in l.buffer in
    record {
      ready : g.S.Source.is_ready l.source (g.O.RowBuffer.room_in l.buffer);
      worked : HasWorked g.S.Source.goes_on g.T.Task.gives l.test_mode (g.R.Reports.heard l.fn.reports) (g.R.Reports.heard l.reports) l.fn.source l.source first rows;
      can_tell : told + most < 2 ^ 64;
      can_refuse : refused + most < 2 ^ 64;
      counted : told + refused + length first ≡ g.R.Reports.told_of l.fn.reports + g.R.Reports.refused_by l.fn.reports + length rows;
      room : g.O.RowBuffer.room_in l.fn.buffer + length first ≤ g.O.RowBuffer.room_in l.buffer + length rows;
    }

-- how many more trials there are at most
abbrev pub decreases-loop-item : goal.decreases-loop-item
decreases-loop-item g l = g.S.Source.most l.source
