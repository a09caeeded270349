use Rattle.std.proofs.Common.{◌∙◌, ◌<◌, ap, arith, length, map, sym}
use Rattle.std.proofs.lemmas.List.{length-map}
use Rattle.libtest_mimic.specs.Prelude.{counted, Placed}
use Rattle.mimic_trial.proofs.Counting.{counts-more}
use Rattle.libtest_mimic.proofs.ArrivedRows.{outcome_of_row}
use Rattle.libtest_mimic.proofs.running.in_workers.count_outcomes.Goals as goal

pub loop-number-preserved : goal.loop-number-preserved
loop-number-preserved c =
    let rows = c.args.desk.now.rows in
    let row = outcome_of_row rows c.loop-number.number _ c.row.ensures in
    let within : c.loop-number.number < length (map (λ (r : Placed). r.1) rows) = omega (arith, c.loop-number-test.true, ap length c.order-number-end.ensures.places, length-map rows (λ (r : Placed). r.0), length-map rows (λ (r : Placed). r.1)) in
    c.count.ensures ∙ ap (λ x. counted x c.row.result.1.now) c.loop-number.invariant
    ∙ sym (counts-more (map (λ (r : Placed). r.1) rows) c.loop-number.number c.row.result.1.now c.args.filtered_out within row)
