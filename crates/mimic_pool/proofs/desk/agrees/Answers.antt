use Rattle.std.proofs.Common.{◌≡◌, ◌∙◌, Some, ap, sym}
use Rattle.std.specs.Option.{option_copied}
use Rattle.mimic_pool.proofs.Settling.{some_same}
use Rattle.mimic_pool.proofs.desk.agrees.Goals as goal

pub returns-in-Some : goal.returns-in-Some
returns-in-Some c =
    let at : option_copied c.args.found ≡ Some c.in-Some.outcome.now = ap option_copied c.in-Some.is in
    (λ t o e. c.eq.ensures.same.0 t ∙ some_same _ _ (sym at ∙ e), λ all. c.eq.ensures.same.1 (all c.in-Some.outcome.now at))
