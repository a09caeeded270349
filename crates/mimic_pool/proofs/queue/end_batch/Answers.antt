use Rattle.std.proofs.Common.{◌≡◌, ◌∙◌, ◌++◌, append_assoc, ap, arith, false, length, length-append, refl, rules, sym}
use Rattle.mimic_pool.specs.Share.{items_of}
use Rattle.mimic_pool.proofs.Emptying.{takes_both, takes_dropped}
use Rattle.mimic_pool.proofs.Sources.{all_answered}
use Rattle.mimic_pool.proofs.Working.{answers_length}
use Rattle.mimic_pool.proofs.queue.end_batch.Goals as goal

pub returns-then-not-whole-clause-answers : goal.returns-then-not-whole-clause-answers
returns-then-not-whole-clause-answers g c = λ taken before was.
    let part : c.args.whole ≡ false = search rules in
    takes_dropped g.T.Task.gives c.args.test_mode c.args.whole taken (items_of c.args.batch) (taken ++ items_of c.args.batch) (before ++ c.args.rows.items) refl part was

pub returns-clause-answers : goal.returns-clause-answers
returns-clause-answers g c = λ taken before was.
    let worked = c.work_from-rows.ensures.worked in
    let answers = all_answered g.T.Task.gives c.args.test_mode (items_of c.args.batch) worked.given c.work_from-rows.result.0 worked.rows (sym c.into_remaining.ensures ∙ worked.went_on) c.work_from-rows.ensures.ended worked.answers in
    let added = ap (λ l. before ++ l) worked.added ∙ sym (append_assoc before c.args.rows.items worked.rows) in
    takes_both g.T.Task.gives c.args.test_mode c.args.whole taken (items_of c.args.batch) (taken ++ items_of c.args.batch) (before ++ c.args.rows.items) worked.rows (before ++ c.work_from-rows.result.1.items) refl added answers was

pub returns-clause-room : goal.returns-clause-room
returns-clause-room g c =
    let worked = c.work_from-rows.ensures.worked in
    let answers = all_answered g.T.Task.gives c.args.test_mode (items_of c.args.batch) worked.given c.work_from-rows.result.0 worked.rows (sym c.into_remaining.ensures ∙ worked.went_on) c.work_from-rows.ensures.ended worked.answers in
    let count = answers_length g.T.Task.gives c.args.test_mode (items_of c.args.batch) worked.rows answers in
    let longer = ap length worked.added ∙ length-append c.args.rows.items worked.rows in
    omega (arith, count, longer, c.work_from-rows.ensures.room)
