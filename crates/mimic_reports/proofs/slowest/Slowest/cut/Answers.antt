use Rattle.std.proofs.Common.{◌≡◌, ◌∙◌, ap, map, refl, rules, sym}
use Rattle.std.proofs.lemmas.List.{take-map}
use Rattle.std.proofs.lemmas.List.Sorted.{answers_always}
use Rattle.mimic_reports.specs.Slowest.{timed_read}
use Rattle.mimic_reports.proofs.SlowestFirst.{slowest_first}
use Rattle.mimic_reports.proofs.slowest.Slowest.cut.Goals as goal

pub returns : goal.returns
returns c =
    let answers = answers_always _ (λ a r. r ≡ record { 0 = a.0.now.nanos }) _ (λ f a r f' k. search rules) in
    let sorted = slowest_first _ _ c.in_ok-sort_by_key.ensures.permutation
    (c.in_ok-sort_by_key.ensures.sorted (λ row. record { 0 = row.nanos }) answers)
    (c.in_ok-sort_by_key.ensures.stable (λ row. record { 0 = row.nanos }) answers) in
    (refl, (map timed_read c.sort_by_key.new.self.items, sorted, ap (map timed_read) c.truncate.ensures.items ∙ sym (take-map _ _ _)))
