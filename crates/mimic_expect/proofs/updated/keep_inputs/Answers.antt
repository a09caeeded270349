use Rattle.std.proofs.Common.{◌∙◌, ◌++◌, ◌∷◌, [], ap, append_assoc, arith, length-append, sym}
use Rattle.std.proofs.lemmas.List.{map-append}
use Rattle.mimic_events.proofs.Pairs.{each_more}
use Rattle.mimic_events.specs.Readings.{InputRead, IsReadOf}
use Rattle.mimic_expect.proofs.Updates.{keeps_next, keeps_none}
use Rattle.mimic_expect.proofs.updated.keep_inputs.Goals as goal

pub loop-input-init : goal.loop-input-init
loop-input-init g c = record {
  seen = c.into_iter-input-iterator.ensures.into_iter_gives.0;
  left = omega (arith, c.into_iter-input-iterator.ensures.into_iter_gives.1);
  done = ([], tt, c.new-ends.ensures.items, keeps_none _);
}

pub loop-input-preserved : goal.loop-input-preserved
loop-input-preserved g c =
    let before = c.loop-input.invariant in
    let done = before.done in
    let came = c.in-Ok.ensures in
    let seen = c.loop-input.yielded in
    let one = length-append seen (c.in-Some.input ∷ []) in
    let next : InputRead = record { entries = came.0; ending = c.in-Ok.ending } in
    record {
      seen = append_assoc seen (c.in-Some.input ∷ []) _ ∙ (ap (λ l. seen ++ l) (sym c.in-Some.ensures.steps.0) ∙ before.seen);
      left = omega (arith, before.left, one, c.in-Some.ensures.steps);
      done = (
        done.0 ++ next ∷ [],
        each_more (λ input r. IsReadOf (g.I.Read.remaining input) r) seen done.0 c.in-Some.input next done.1 came.1,
        c.in_ok-push.ensures.items ∙ (ap (λ l. l ++ c.in-Ok.ending ∷ []) done.2 ∙ sym (map-append (λ (r : InputRead). r.ending) done.0 (next ∷ []))),
        keeps_next _ _ _ done.0 next done.3 came.2,
      );
    }
