use Rattle.mimic_watch.proofs.Seeing.{nothing_taken, rest_taken, row_taken}
use Rattle.mimic_watch.proofs.viewer.Viewer.take.Goals as goal

pub loop-row-init : goal.loop-row-init
loop-row-init c = nothing_taken _ _

pub loop-row-preserved-in_ok-add : goal.loop-row-preserved-in_ok-add
loop-row-preserved-in_ok-add c =
    row_taken c.loop-row.invariant _ _ c.in-Some.row c.in-Some.left.now c.in_ok-add.ensures
    (rw c.in-Some.is at c.in_ok-row.ensures.followed)

pub loop-row-preserved-in_ok-add-2 : goal.loop-row-preserved-in_ok-add-2
loop-row-preserved-in_ok-add-2 c =
    row_taken c.loop-row.invariant _ _ c.in-Some.row c.in-Some.left.now c.in_ok-add.ensures
    (rw c.in-Some.is at c.in_ok-row.ensures.followed)

pub loop-row-preserved : goal.loop-row-preserved
loop-row-preserved c =
    row_taken c.loop-row.invariant _ _ c.in-Some.row c.in-Some.left.now c.in_ok-add.ensures
    (rw c.in-Some.is at c.in_ok-row.ensures.followed)

pub returns-clause-seen : goal.returns-clause-seen
returns-clause-seen c = rest_taken c.loop-row.invariant _ (rw c.in_default.is at c.in_ok-row.ensures.followed)
