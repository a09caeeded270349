use Rattle.std.proofs.lemmas.Str.{IsUtf8-string_bytes}
use Rattle.mimic_trial.proofs.outcome.failed.Failed.with_message.Goals as goal

pub invariant_of-result : goal.invariant_of-result
invariant_of-result c = IsUtf8-string_bytes c.args.message
