use Rattle.std.proofs.Common.{◌≡◌, rules}
use Rattle.std.specs.Ordering.{is_lt}
use Rattle.std.proofs.lemmas.List.{take_all}
use Rattle.std.proofs.lemmas.List.Sorted.{answers_always}
use Rattle.mimic_compare.specs.Changes.{is_greater}
use Rattle.mimic_compare.proofs.Ranks.{greater-order}
use Rattle.mimic_compare.proofs.change.ranked_changes.Goals as goal

pub returns : goal.returns
returns c =
    let all = rw (take_all c.loop-comparison.comparison-index c.args.found.now c.loop-comparison-test.false)
    at c.loop-comparison.invariant in
    let answers = answers_always _ (λ a r. is_lt r ≡ is_greater a.0.now a.1.0.now) _ (λ f a r f' k. search rules) in
    record {
      same = rw (← all) c.in_ok-sort_by.ensures.permutation;
      falling = c.in_ok-sort_by.ensures.sorted is_greater greater-order answers;
      stable = rw (← all) (c.in_ok-sort_by.ensures.stable is_greater greater-order answers);
    }
