use Rattle.std.proofs.Common.{arith, refl}
use Rattle.std.proofs.lemmas.Grind.{common_steps}
use Rattle.std.proofs.lemmas.List.{map-append}
use Rattle.std.proofs.lemmas.Map.Iter.{iter_end}
use Rattle.mimic_compare.proofs.Found.{all_found}
use Rattle.mimic_compare.proofs.trials.compare_trials.Goals as goal

pub loop-label-preserved : goal.loop-label-preserved
loop-label-preserved g c = simp (map-append, c.in_ok-push.ensures.items, c.loop-label.invariant, c.in_ok-class.ensures) refl

pub returns : goal.returns
returns g c = λ come h. grind (arith, common_steps, iter_end, all_found c.args.is_judged c.args.trials.now come c.iter-label-items.ensures.unique h)
