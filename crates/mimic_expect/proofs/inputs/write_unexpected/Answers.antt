use Rattle.std.proofs.Common.{◌∙◌, [], ap, append-nil, map, subst, sym}
use Rattle.mimic_printer.specs.Sink.{Put, Stopped, shown}
use Rattle.mimic_printer.proofs.Adding.{adds_last, puts_added}
use Rattle.mimic_printer.proofs.Appending.{Put-Stopped, Put-refl, Put-trans}
use Rattle.mimic_expect.specs.Known.{expected_read}
use Rattle.mimic_expect.specs.JudgedRows.{Judged, Judges}
use Rattle.mimic_expect.specs.Verdict.{have_all, rows_of}
use Rattle.mimic_expect.proofs.Judged.{inputs_read, none_read}
use Rattle.mimic_expect.proofs.Verdicts.{memory_left, rest_counts, rows_left_by, says_of, some_counts, whole_text, write_left}
use Rattle.mimic_expect.proofs.inputs.write_unexpected.Goals as goal
use Rattle.mimic_expect.proofs.inputs.write_unexpected.Goals.{then-failed-gt0, else-failed-gt0}

pub returns-in_err-judge-clause-verdict : goal.returns-in_err-judge-clause-verdict
returns-in_err-judge-clause-verdict g c =
    memory_left g.I.Read.remaining (map expected_read c.args.known.now) c.args.inputs.items c.args.options _ _ c.from_residual.result []
    c.from_residual.ensures.1 (none_read g.I.Read.remaining c.args.inputs.items) (Put-refl _)

pub returns-in_err-failed-clause-verdict : goal.returns-in_err-failed-clause-verdict
returns-in_err-failed-clause-verdict g c =
    rows_left_by g.I.Read.remaining (map expected_read c.args.known.now) c.args.inputs.items c.args.options _ _ c.from_residual-in_err-failed.result
    c.in_err-failed.field-0.0 _ (ap (λ (j : Judged). j.known) c.in_ok-judge.ensures) c.from_residual-in_err-failed.ensures.1 c.in_err-failed.ensures

pub returns-in_err-judgement-clause-verdict : goal.returns-in_err-judgement-clause-verdict
returns-in_err-judgement-clause-verdict g c =
    let known = map expected_read c.args.known.now in
    let inputs = c.args.inputs.items in
    let came = c.in_ok-failed.ensures in
    memory_left g.I.Read.remaining known inputs c.args.options _ _ c.from_residual-in_err-judgement.result (rows_of came.0)
    c.from_residual-in_err-judgement.ensures.1
    (inputs_read g.I.Read.remaining inputs inputs [] came.0 (sym (append-nil inputs)) came.1)
    (subst (λ (j : Judged). Judges c.args.options.lines j c.judge_inputs.new.judge (rows_of came.0) c.in_ok-failed.failed (shown g.W.Write.contents c.args.sink.now) (shown g.W.Write.contents c.judge_inputs.new.sink)) c.in_ok-judge.ensures came.3).put

pub returns-in_err-end-clause-verdict : goal.returns-in_err-end-clause-verdict
returns-in_err-end-clause-verdict g c =
    let known = map expected_read c.args.known.now in
    let came = c.in_ok-failed.ensures in
    let judged = subst (λ (j : Judged). Judges c.args.options.lines j c.judge_inputs.new.judge (rows_of came.0) c.in_ok-failed.failed (shown g.W.Write.contents c.args.sink.now) (shown g.W.Write.contents c.judge_inputs.new.sink)) c.in_ok-judge.ensures came.3 in
    let whole = whole_text known c.judge_inputs.new.judge came.0 _ _ c.in_ok-failed.ends.items _ c.in_ok-failed.failed c.in_ok-judgement.judgement c.args.options.lines _ _
    judged c.have_all.ensures c.deref.ensures.value c.deref-2.ensures.value came.2 c.in_ok-judgement.ensures.unexpected c.in_ok-judgement.ensures.met in
    let put = puts_added _ _ (adds_last _ c.add_judgement.ensures c.add_flush.ensures) c.in_err-end.ensures in
    write_left g.I.Read.remaining known c.args.inputs.items c.args.options _ _ c.from_residual-in_err-end.result c.in_err-end.field-0.0 came.0
    c.from_residual-in_err-end.ensures.1 came.1 (subst (Stopped _ _) whole (Put-Stopped _ _ judged.put put))

pub returns-clause-verdict : goal.returns-clause-verdict
returns-clause-verdict g c =
    let known = map expected_read c.args.known.now in
    let came = c.in_ok-failed.ensures in
    let judged = subst (λ (j : Judged). Judges c.args.options.lines j c.judge_inputs.new.judge (rows_of came.0) c.in_ok-failed.failed (shown g.W.Write.contents c.args.sink.now) (shown g.W.Write.contents c.judge_inputs.new.sink)) c.in_ok-judge.ensures came.3 in
    let whole = whole_text known c.judge_inputs.new.judge came.0 _ _ c.in_ok-failed.ends.items _ c.in_ok-failed.failed c.in_ok-judgement.judgement c.args.options.lines _ _
    judged c.have_all.ensures c.deref.ensures.value c.deref-2.ensures.value came.2 c.in_ok-judgement.ensures.unexpected c.in_ok-judgement.ensures.met in
    let failed = c.in_ok-failed.failed in
    let rows = rows_of came.0 in
    let judgement = c.in_ok-judgement.judgement in
    let new = c.judge_inputs.new.judge in
    let says = says_of judgement new came.0 _ c.in_ok-failed.ends.items _ c.have_all.ensures c.deref.ensures.value came.2 c.in_ok-judgement.ensures.unexpected in
    let put = puts_added _ _ (adds_last _ c.add_judgement.ensures c.add_flush.ensures) c.in_ok-end.ensures in
    record {
      read = came.0;
      each = came.1;
      ends = came.2;
      put = subst (Put _ _) whole (Put-trans _ _ judged.put put);
      unexpected = elim c.if-failed-gt0.branch [
        | then-failed-gt0 w ↦ w.result-is ∙ some_counts known new rows (have_all came.0) failed judgement judged says c.args.options.lax w.if-failed-gt0.true
        | else-failed-gt0 w ↦ w.result-is ∙ rest_counts known new rows (have_all came.0) failed judgement judged says c.args.options.lax w.is_unexpected.result w.if-failed-gt0.false w.is_unexpected.ensures
      ];
    }
