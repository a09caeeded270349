use Rattle.std.proofs.Common.{◌∙◌, ap, unwrap_or}
use Rattle.mimic_compare.proofs.messages.count_of_message.Goals as goal

pub returns : goal.returns
returns g c = λ fates h. c.unwrap_or.ensures ∙ ap (λ o. unwrap_or o 0) (c.copied.ensures ∙ c.get.ensures.value) ∙ h c.args.message
