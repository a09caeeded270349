use Rattle.std.proofs.Common.{[], subst}
use Rattle.mimic_events.specs.Key.{HasTrials, label_in}
use Rattle.mimic_events.proofs.Keys.{grown, labels_more}
use Rattle.mimic_expect.specs.declared.known.Expectation.{Expectation}
use Rattle.mimic_expect.proofs.judge.labels_in.Goals as goal

pub loop-expectation-preserved : goal.loop-expectation-preserved
loop-expectation-preserved g c =
    subst (HasTrials c.insert.new.self)
    (labels_more (λ (e : Expectation). label_in e.row) [] c.args.known.now c.loop-expectation.expectation-index c.expectation-item.result c.loop-expectation-test.true c.expectation-item.is)
    (grown c.loop-expectation.labels c.insert.new.self _ c.expectation-item.result.row c.in_ok-insert.ensures.updates.0 c.loop-expectation.invariant)
