use Rattle.std.proofs.Common.{◌∙◌, ◌∷◌, ◌++◌, [], ap, append_assoc, arith, length-append, map, sym}
use Rattle.std.proofs.lemmas.List.{map-append}
use Rattle.mimic_events.proofs.Pairs.{each_more}
use Rattle.mimic_events.specs.Inputs.{IsReportIn}
use Rattle.mimic_join.proofs.ReadInputs.{fails_next}
use Rattle.mimic_join.proofs.inputs.read_all.Goals as goal

pub returns-in-Err : goal.returns-in-Err
returns-in-Err g c =
    let before = c.loop-input.invariant in
    let seen = c.loop-input.yielded in
    fails_next g.I.Read.remaining c.args.inputs.items seen _ c.in-Some.input c.loop-input.place c.loop-input.reports.items c.in-Err.fault
    (ap (λ l. seen ++ l) (sym c.in-Some.ensures.steps.0) ∙ before.seen) before.place before.read c.in-Err.ensures

pub loop-input-preserved : goal.loop-input-preserved
loop-input-preserved g c =
    let before = c.loop-input.invariant in
    let seen = c.loop-input.yielded in
    record {
      seen = append_assoc seen (c.in-Some.input ∷ []) _ ∙ (ap (λ l. seen ++ l) (sym c.in-Some.ensures.steps.0) ∙ before.seen);
      place = omega (arith, before.place, length-append seen (c.in-Some.input ∷ []));
      left = omega (arith, before.left, c.in-Some.ensures.steps);
      read = rw (map-append, c.in_ok-push-in-Ok.ensures.items)
          (each_more IsReportIn (map g.I.Read.remaining seen) c.loop-input.reports.items (g.I.Read.remaining c.in-Some.input) c.in-Ok.report before.read c.in-Ok.ensures);
    }
