use Rattle.std.proofs.Common.{◌≡◌, ◌++◌, ◌∷◌, [], length, length-append, arith, ap, ◌∙◌}
use Rattle.mimic_events.proofs.Results.{on_error}
use Rattle.mimic_expect.proofs.KnownLines.{line_off, one_line, read_last, read_more, wrong}
use Rattle.mimic_expect.proofs.known.read_known.Goals as goal

pub returns-in_err-add_line : goal.returns-in_err-add_line
returns-in_err-add_line c =
    let l = c.in-Some.ensures.1 in
    on_error c.from_residual.result c.in_err-add_line.field-0.0 _ _ c.from_residual.ensures.1
    (wrong _ _ l.front _ _ _ _ c.loop-line.invariant.read (line_off _ c.in-Some.line.now c.in-Some.after.now c.in-Some.ensures.0 l)
    (c.in_err-add_line.ensures l.front l.parts))

pub loop-line-preserved : goal.loop-line-preserved
loop-line-preserved c =
    let l = c.in-Some.ensures.1 in
    record {
      read = read_more _ _ c.in-Some.line.now c.in-Some.after.now _ _ _ c.loop-line.invariant.read c.in-Some.ensures.0 l (c.in_ok-add_line.ensures l.front l.parts);
      small = omega (arith, c.loop-line.invariant.small, ap length c.in-Some.ensures.0, length-append c.in-Some.line.now c.in-Some.after.now, ap length l.parts, length-append l.front (10 ∷ []));
    }

pub returns-in_err-add_line-2 : goal.returns-in_err-add_line-2
returns-in_err-add_line-2 c =
    let ended : c.deref.result.now ≡ c.loop-line.rest.now ++ 10 ∷ [] = c.deref.ensures.value ∙ (c.in_ok-push.ensures.items ∙ ap (λ x. x ++ 10 ∷ []) c.in_ok-last.ensures.items) in
    on_error c.from_residual-in_err-add_line-2.result c.in_err-add_line-2.field-0.0 _ _ c.from_residual-in_err-add_line-2.ensures.1
    (wrong _ _ c.loop-line.rest.now _ _ _ _ c.loop-line.invariant.read (one_line _ c.in_default.ensures) (c.in_err-add_line-2.ensures c.loop-line.rest.now ended))

pub returns : goal.returns
returns c =
    let ended : c.deref.result.now ≡ c.loop-line.rest.now ++ 10 ∷ [] = c.deref.ensures.value ∙ (c.in_ok-push.ensures.items ∙ ap (λ x. x ++ 10 ∷ []) c.in_ok-last.ensures.items) in
    read_last _ _ _ _ _ c.loop-line.invariant.read c.in_default.ensures (c.in_ok-add_line-2.ensures c.loop-line.rest.now ended)
