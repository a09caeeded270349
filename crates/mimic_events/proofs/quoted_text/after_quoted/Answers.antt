use Rattle.std.proofs.Common.{[], ◌∷◌, ◌++◌, List, ℕ, None, sym, ap, ◌∙◌}
use Rattle.mimic_trial.specs.Escape.{escaped}
use Rattle.mimic_events.proofs.Fronts.{follows_then, follows_stop}
use Rattle.mimic_events.proofs.quoted_text.after_quoted.Goals as goal

pub returns-in_err-rest-2 : goal.returns-in_err-rest-2
returns-in_err-rest-2 c = rw c.from_residual-in_err-rest-2.ensures
    (follows_then c.args.front.now (escaped c.args.text.now ++ 34 ∷ []) c.args.line.now c.in_ok-rest.rest.now None c.in_ok-rest.ensures
    (follows_stop (escaped c.args.text.now) (34 ∷ []) c.in_ok-rest.rest.now (λ rest e. c.in_err-rest-2.ensures rest (e ∙ ap (λ (x : List ℕ). escaped x ++ rest) (sym c.as_bytes.ensures.value)))))
