use Rattle.std.proofs.Common.{◌++◌}
use Rattle.mimic_printer.specs.Json.{json_end}
use Rattle.mimic_trial.specs.Seconds.{exact_seconds}
use Rattle.mimic_events.proofs.Summaries.{behind_number, is_time, totals_found}
use Rattle.mimic_events.proofs.summary.totals.Goals as goal

pub returns-in_err-rest : goal.returns-in_err-rest
returns-in_err-rest c = rw c.from_residual-in_err-rest.ensures (λ v h.
    c.in_err-rest.ensures (exact_seconds v.1 ++ json_end) (behind_number c.args.rest.now c.in_ok-filtered_out.rest.now c.in_ok-filtered_out.filtered_out v c.in_ok-filtered_out.ensures h).1)

pub returns-in_err-nanos : goal.returns-in_err-nanos
returns-in_err-nanos c = rw c.from_residual-in_err-nanos.ensures (λ v h.
    c.in_err-nanos.ensures v.1
    (is_time c.args.rest.now c.in_ok-filtered_out.rest.now c.in_ok-rest.rest.now c.in_ok-before.field-0.now c.in_ok-filtered_out.filtered_out v c.in_ok-filtered_out.ensures c.in_ok-rest.ensures c.in_ok-before.ensures h))

pub returns : goal.returns
returns c =
    totals_found c.args.rest.now c.in_ok-filtered_out.rest.now c.in_ok-rest.rest.now c.in_ok-before.field-0.now c.in_ok-filtered_out.filtered_out c.in_ok-nanos.nanos
    c.in_ok-filtered_out.ensures c.in_ok-rest.ensures c.in_ok-before.ensures c.in_ok-nanos.ensures
