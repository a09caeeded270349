use Rattle.std.proofs.Common.{◌≡◌, ◌∙◌, ◌++◌, ap, arith, length, rules, subst, sym}
use Rattle.mimic_pool.specs.Share.{items_of}
use Rattle.std.proofs.lemmas.List.{nil_from_length}
use Rattle.mimic_pool.proofs.Sources.{all_returned}
use Rattle.mimic_pool.proofs.Working.{answers_length}
use Rattle.mimic_pool.proofs.worker.work.Goals as goal

pub returns-clause-answers : goal.returns-clause-answers
returns-clause-answers g c =
    let empty : length c.args.rows.items ≡ 0 = search rules in
    let worked = c.work_from-rows.ensures.worked in
    all_returned g.T.Task.gives c.args.test_mode (items_of c.args.share) worked.given c.work_from-rows.result.0 worked.rows (sym c.into_remaining.ensures ∙ worked.went_on) c.work_from-rows.ensures.ended worked.answers c.args.rows.items c.work_from-rows.result.1.items worked.added (nil_from_length c.args.rows.items empty)

pub returns-clause-counted : goal.returns-clause-counted
returns-clause-counted g c =
    let empty : length c.args.rows.items ≡ 0 = search rules in
    let rows = answers_length g.T.Task.gives c.args.test_mode (items_of c.args.share) c.work_from-rows.result.1.items (returns-clause-answers g c) in
    let counted = c.work_from-rows.ensures.counted in
    omega (arith, rows, counted, empty)

pub returns-clause-heard : goal.returns-clause-heard
returns-clause-heard g c = λ told heard.
    let empty : length c.args.rows.items ≡ 0 = search rules in
    let worked = c.work_from-rows.ensures.worked in
    subst (λ l. g.R.Reports.heard c.work_from-rows.new.reports (told ++ l)) (sym (worked.added ∙ ap (λ l. l ++ worked.rows) (nil_from_length c.args.rows.items empty))) (worked.hears told heard)
