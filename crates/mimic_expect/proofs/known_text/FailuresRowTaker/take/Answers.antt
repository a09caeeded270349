use Rattle.std.proofs.Common.{◌∷◌, [], ap, subst}
use Rattle.mimic_trial.specs.Count.{is_failed}
use Rattle.mimic_printer.specs.Sink.{Adds}
use Rattle.mimic_printer.proofs.Adding.{puts_added}
use Rattle.mimic_printer.specs.declared.sink.OutputFault.TheVariants.{Write}
use Rattle.mimic_events.specs.Contents.{entry_read}
use Rattle.mimic_events.proofs.Results.{on_error}
use Rattle.mimic_expect.proofs.KnownTexts.{known_stopped, one_known}
use Rattle.mimic_expect.proofs.known_text.FailuresRowTaker.take.Goals as goal

pub returns-in_err-end : goal.returns-in_err-end
returns-in_err-end g c start entries taken =
    let row = entry_read c.args.row in
    let added = subst (Adds _ _ _) (one_known row (ap is_failed c.in-Failed.is)) c.add_row.ensures in
    on_error _ (Write c.in_err-end.field-0.0) _ _ c.from_residual.ensures.1
    (taken.0.0, known_stopped _ _ _ entries (row ∷ []) taken.1 (puts_added _ _ added c.in_err-end.ensures))
