use Rattle.std.proofs.lemmas.Result.{IfOk-weaker}
use Rattle.mimic_events.proofs.rows.InputRows.finish.Goals as goal

pub returns : goal.returns
returns g c =
    IfOk-weaker c.of.result _ _
    (λ ending of start entries h. of h.bytes entries h.followed start _ h.gone h.last) c.of.ensures
