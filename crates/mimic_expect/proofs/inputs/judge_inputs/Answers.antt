use Rattle.std.proofs.Common.{◌∙◌, ◌++◌, ◌∷◌, [], ap, append_assoc, arith, length-append, sym}
use Rattle.std.proofs.lemmas.List.{map-append}
use Rattle.mimic_events.specs.Readings.{InputRead, IsReadOf}
use Rattle.mimic_expect.specs.Verdict.{rows_of}
use Rattle.mimic_printer.specs.declared.sink.OutputFault.TheVariants.{OutOfMemory}
use Rattle.mimic_events.proofs.Pairs.{each_more}
use Rattle.mimic_events.proofs.Results.{on_error}
use Rattle.mimic_expect.proofs.Judged.{input_judged, input_left, inputs_read, judges_none}
use Rattle.mimic_expect.proofs.inputs.judge_inputs.Goals as goal

pub loop-input-init : goal.loop-input-init
loop-input-init g c = record {
  seen = c.into_iter-input-iterator.ensures.into_iter_gives.0;
  left = omega (arith, c.into_iter-input-iterator.ensures.into_iter_gives.1);
  few = omega arith;
  done = ([], tt, c.new-ends.ensures.items, judges_none _ _);
}

pub returns-in_err-count : goal.returns-in_err-count
returns-in_err-count g c =
    let before = c.loop-input.invariant in
    let done = before.done in
    let fault = c.in_err-count.field-0.0 in
    let parts = sym before.seen ∙ ap (λ l. c.loop-input.yielded ++ l) c.in-Some.ensures.steps.0 in
    on_error _ fault _ _ c.from_residual.ensures.1
    (input_left g.I.Read.remaining c.args.inputs.items c.loop-input.yielded _ c.in-Some.input done.0 _ _ _ _ _ _ fault parts done.1 done.3 c.in_err-count.ensures)

pub loop-input-preserved : goal.loop-input-preserved
loop-input-preserved g c =
    let before = c.loop-input.invariant in
    let done = before.done in
    let came = c.in_ok-count.ensures in
    let seen = c.loop-input.yielded in
    let one = length-append seen (c.in-Some.input ∷ []) in
    let next : InputRead = record { entries = came.0; ending = c.in_ok-count.ending } in
    record {
      seen = append_assoc seen (c.in-Some.input ∷ []) _ ∙ (ap (λ l. seen ++ l) (sym c.in-Some.ensures.steps.0) ∙ before.seen);
      left = omega (arith, before.left, one, c.in-Some.ensures.steps);
      few = omega (arith, before.few, one, c.from-failed.ensures);
      done = (
        done.0 ++ next ∷ [],
        each_more (λ input r. IsReadOf (g.I.Read.remaining input) r) seen done.0 c.in-Some.input next done.1 came.1,
        c.in_ok-push.ensures.items ∙ (ap (λ l. l ++ c.in_ok-count.ending ∷ []) done.2 ∙ sym (map-append (λ (r : InputRead). r.ending) done.0 (next ∷ []))),
        input_judged _ _ _ done.0 next _ _ c.from-failed.result _ _ _ done.3 came.2 c.from-failed.ensures,
      );
    }

pub returns-in_err-push : goal.returns-in_err-push
returns-in_err-push g c =
    let before = c.loop-input.invariant in
    let done = before.done in
    let came = c.in_ok-count.ensures in
    let seen = c.loop-input.yielded in
    let next : InputRead = record { entries = came.0; ending = c.in_ok-count.ending } in
    let parts = sym before.seen ∙ (ap (λ l. seen ++ l) c.in-Some.ensures.steps.0 ∙ sym (append_assoc seen (c.in-Some.input ∷ []) _)) in
    let judged = input_judged _ _ _ done.0 next _ _ c.from-failed.result _ _ _ done.3 came.2 c.from-failed.ensures in
    on_error _ OutOfMemory _ _ c.from_residual-in_err-push.ensures.1 (
      rows_of (done.0 ++ next ∷ []),
      inputs_read g.I.Read.remaining c.args.inputs.items (seen ++ c.in-Some.input ∷ []) _ (done.0 ++ next ∷ []) parts
          (each_more (λ input r. IsReadOf (g.I.Read.remaining input) r) seen done.0 c.in-Some.input next done.1 came.1),
      judged.put,
    )
