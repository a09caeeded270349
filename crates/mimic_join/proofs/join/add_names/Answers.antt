use Rattle.std.proofs.Common.{◌++◌, List, map, subst}
use Rattle.std.proofs.lemmas.List.{take_all}
use Rattle.mimic_events.specs.Key.{HasTrials, label_in}
use Rattle.mimic_events.specs.declared.report.Row.{Row}
use Rattle.mimic_events.proofs.Keys.{grown, labels_more}
use Rattle.mimic_join.proofs.join.add_names.Goals as goal

pub loop-row-preserved : goal.loop-row-preserved
loop-row-preserved g c = λ labels has.
    let row = c.row-item.result in
    subst (HasTrials c.insert.new.self) (labels_more label_in labels c.args.rows.now c.loop-row.row-index row c.loop-row-test.true c.row-item.is)
    (grown c.loop-row.seen c.insert.new.self _ row c.in_ok-insert.ensures.updates.0 (c.loop-row.invariant labels has))

pub returns : goal.returns
returns g c = λ labels has.
    subst (λ (rows : List Row). HasTrials c.loop-row.seen (labels ++ map label_in rows)) (take_all c.loop-row.row-index c.args.rows.now c.loop-row-test.false) (c.loop-row.invariant labels has)
