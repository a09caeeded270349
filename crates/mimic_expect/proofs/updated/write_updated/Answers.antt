use Rattle.std.proofs.Common.{◌≡◌, ◌∙◌, ap, map, subst, true}
use Rattle.std.specs.Prelude.{filter}
use Rattle.std.specs.List.{list_all}
use Rattle.mimic_printer.specs.Sink.{Adds}
use Rattle.mimic_printer.proofs.Adding.{adds_last, puts_added}
use Rattle.mimic_printer.specs.declared.sink.OutputFault.TheVariants.{Write}
use Rattle.mimic_events.proofs.Results.{at_fault}
use Rattle.mimic_expect.specs.Expect.{counts}
use Rattle.mimic_expect.specs.JudgedRows.{Judged, Keeps}
use Rattle.mimic_expect.specs.JudgementText.{finding_read}
use Rattle.mimic_expect.specs.Known.{expected_read}
use Rattle.mimic_expect.specs.Updated.{LeavesUpdate}
use Rattle.mimic_expect.specs.Verdict.{rows_of}
use Rattle.mimic_events.specs.Readings.{has_all, is_whole}
use Rattle.mimic_expect.proofs.Updates.{update_added, update_is}
use Rattle.mimic_expect.proofs.updated.write_updated.Goals as goal

pub returns-in_err-end-clause-update : goal.returns-in_err-end-clause-update
returns-in_err-end-clause-update g c =
    let came = c.in_ok-ends.ensures in
    let known = map expected_read c.args.file.known.now in
    let whole : list_all is_whole c.in_ok-ends.ends.items ≡ true = let e = c.is_written.ensures in let f = c.if-not-is_written.false in cc in
    let says = c.in_ok-judgement.ensures.unexpected in
    let counted = c.in_ok-found.ensures ∙ ap (filter (λ u. counts c.args.lax (finding_read u))) c.deref-2.ensures.value in
    let is = update_is c.args.file.text.now known c.args.lax came.0 c.in_ok-ends.ends.items c.keep_inputs.new.judge c.have_all.result
    c.in_ok-judgement.judgement.unexpected.items c.in_ok-found.found.items came.2 whole (subst (λ (j : Judged). Keeps j c.keep_inputs.new.judge (rows_of came.0)) c.in_ok-judge.ensures came.3)
    (c.have_all.ensures ∙ ap (list_all has_all) c.deref.ensures.value) says counted in
    let added = update_added c.args.file.text.now c.in_ok-found.found.items c.in_ok-changes.changes (rw c.deref-3.ensures.value at c.in_ok-changes.ensures) c.add_kept.ensures
    (rw c.deref-4.ensures.value at c.add_unknown.ensures) in
    let put = puts_added _ _ (subst (Adds _ _ _) is (adds_last _ added c.add_flush.ensures)) c.in_err-end.ensures in
    at_fault (LeavesUpdate _ _ _ _ _) _ (Write c.in_err-end.field-0.0) c.from_residual-in_err-end.ensures.1
    (record { read = came.0; each = came.1; written = put })

pub returns-clause-update : goal.returns-clause-update
returns-clause-update g c =
    let came = c.in_ok-ends.ensures in
    let known = map expected_read c.args.file.known.now in
    let whole : list_all is_whole c.in_ok-ends.ends.items ≡ true = let e = c.is_written.ensures in let f = c.if-not-is_written.false in cc in
    let says = c.in_ok-judgement.ensures.unexpected in
    let counted = c.in_ok-found.ensures ∙ ap (filter (λ u. counts c.args.lax (finding_read u))) c.deref-2.ensures.value in
    let is = update_is c.args.file.text.now known c.args.lax came.0 c.in_ok-ends.ends.items c.keep_inputs.new.judge c.have_all.result
    c.in_ok-judgement.judgement.unexpected.items c.in_ok-found.found.items came.2 whole (subst (λ (j : Judged). Keeps j c.keep_inputs.new.judge (rows_of came.0)) c.in_ok-judge.ensures came.3)
    (c.have_all.ensures ∙ ap (list_all has_all) c.deref.ensures.value) says counted in
    let added = update_added c.args.file.text.now c.in_ok-found.found.items c.in_ok-changes.changes (rw c.deref-3.ensures.value at c.in_ok-changes.ensures) c.add_kept.ensures
    (rw c.deref-4.ensures.value at c.add_unknown.ensures) in
    let put = puts_added _ _ (subst (Adds _ _ _) is (adds_last _ added c.add_flush.ensures)) c.in_ok-end.ensures in
    record { read = came.0; each = came.1; written = (came.2, put) }
