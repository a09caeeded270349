use Rattle.std.proofs.Common.{◌∙◌, ap, ap₂, codes}
use Rattle.std.proofs.lemmas.Result.{IfOk-weaker}
use Rattle.mimic_args.specs.CommandLine.{excluding, options_with}
use Rattle.mimic_args.proofs.Arguments.command.Goals as goal

pub returns : goal.returns
returns c =
    let test = c.in_ok-test.ensures.declared ∙ ap (λ d. excluding d (codes "bench")) c.test.ensures.declared in
    let quiet = c.in_ok-quiet.ensures.declared ∙ ap (λ d. excluding d (codes "format")) c.quiet.ensures.declared in
    IfOk-weaker c.command_of.result _ _
    (λ r h. (h.0, h.1, h.2, h.3, h.4 ∙ ap₂ (λ t q. options_with t q h.0 h.1 h.2) test quiet)) c.command_of.ensures
