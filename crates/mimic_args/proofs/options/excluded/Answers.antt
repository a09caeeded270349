use Rattle.std.proofs.lemmas.Result.{IfOk-weaker}
use Rattle.mimic_args.proofs.Declaring.{declared-excluding}
use Rattle.mimic_args.proofs.options.excluded.Goals as goal

pub returns-clause-declared : goal.returns-clause-declared
returns-clause-declared c =
    IfOk-weaker c.conflicts_with.result _ _ (λ r h. declared-excluding c.args.arg r c.args.other h) c.conflicts_with.ensures
