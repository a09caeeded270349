use Rattle.std.proofs.Common.{◌++◌, ◌∙◌, ap, ap₂, arith, map}
use Rattle.mimic_trial.specs.Count.{is_ignored_outcome}
use Rattle.mimic_events.specs.Contents.{entry_read}
use Rattle.mimic_expect.specs.Expect.{findings_with, has_passed, keyed, left_by, rows_with, unmet_by}
use Rattle.mimic_expect.specs.JudgementText.{entries_read, expected_at}
use Rattle.mimic_expect.specs.Known.{expected_read}
use Rattle.mimic_expect.proofs.Judgements.{counted, failures_read, others_found}
use Rattle.mimic_expect.proofs.judge.Judge.finish.Goals as goal

pub overflow_sub-met : goal.overflow_sub-met
overflow_sub-met g c =
    let found = rw c.deref.ensures.value at c.in_ok-failed.ensures in
    let n = counted c.self.inside.known.now c.self.inside.rows.items c.in_ok-failed.failed.items c.deref-2.result.now c.in_ok-left.unmet.items found c.deref-2.ensures.value c.in_ok-left.ensures.1 in
    omega (arith, n, c.len.ensures, c.len-2.ensures)

pub returns-clause-met : goal.returns-clause-met
returns-clause-met g c =
    let found = rw c.deref.ensures.value at c.in_ok-failed.ensures in
    let n = counted c.self.inside.known.now c.self.inside.rows.items c.in_ok-failed.failed.items c.deref-2.result.now c.in_ok-left.unmet.items found c.deref-2.ensures.value c.in_ok-left.ensures.1 in
    rw (← c.self.view_is) (omega (arith, n, c.len.ensures, c.len-2.ensures))

pub returns-clause-unexpected : goal.returns-clause-unexpected
returns-clause-unexpected g c =
    let known = keyed (map expected_read c.self.inside.known.now) in
    let rows = map entry_read c.self.inside.rows.items in
    let found = rw c.deref.ensures.value at c.in_ok-failed.ensures in
    let same = failures_read c.self.inside.known.now c.self.inside.rows.items c.in_ok-failed.failed.items c.deref-2.result.now c.in_ok-left.unmet.items found c.deref-2.ensures.value in
    let left = ap expected_at c.deref-4.ensures.value ∙ (c.in_ok-left.ensures.0 ∙ ap (λ l. map (λ x. x.1) (left_by known l)) same) in
    let unmet = c.in_ok-left.ensures.1 ∙ ap (unmet_by known) same in
    let others = ap entries_read c.deref-5.ensures.value
    ∙ (others_found c.self.inside.rows.items c.in_ok-left.unmet.items c.in_ok-others.others.items (rw c.deref-3.ensures.value at c.in_ok-others.ensures)
    ∙ ap (λ u. u ++ (rows_with has_passed rows ++ rows_with is_ignored_outcome rows)) unmet) in
    rw (← c.self.view_is) (c.in_ok-unexpected.ensures ∙ ap₂ (λ l r. findings_with l r c.args.are_all) left others)
