use Rattle.std.proofs.Common.{◌∙◌, ap, arith, length, refl}
use Rattle.std.proofs.lemmas.List.{length-map}
use Rattle.mimic_printer.proofs.Adding.{puts_added}
use Rattle.libtest_mimic.specs.Prelude.{info_of, selected_suite}
use Rattle.libtest_mimic.proofs.Gathering.{on_error}
use Rattle.libtest_mimic.proofs.InWorkers.{can_show, failures_refused, held_of, no_fault, reported_by, rows_refused, summary_refused}
use Rattle.libtest_mimic.proofs.running.in_workers.run_in_workers.Goals as goal

pub write_rows-requires-clause-few : goal.write_rows-requires-clause-few
write_rows-requires-clause-few g c =
    let infos = c.in_ok-infos.ensures.supplied.parts.each_info in
    omega (
      arith,
      c.in_ok-infos.ensures.workers,
      c.in_ok-waiting.ensures.workers,
      c.worker_count-count.ensures,
      c.len.ensures,
      ap length (c.as_slice-infos.ensures.value ∙ infos),
      length-map c.args.request.selection.trials.items info_of,
    )

pub write_rows-requires-clause-held : goal.write_rows-requires-clause-held
write_rows-requires-clause-held g c κs within =
    let suite = selected_suite c.args.request.selection c.args.printer in
    held_of g.R.Task.gives suite _ _ _ _ c.as_slice-infos.ensures.value c.in_ok-infos.ensures.supplied

pub returns-in_err-desk-clause-reported : goal.returns-in_err-desk-clause-reported
returns-in_err-desk-clause-reported g c =
    let suite = selected_suite c.args.request.selection c.args.printer in
    let shows = c.as_slice-infos.ensures.value in
    let supplied = c.in_ok-infos.ensures.supplied in
    on_error c.from_residual-in_err-desk.result _ _ _ c.from_residual-in_err-desk.ensures.1
    (rows_refused _ suite _ _ _ _ shows supplied _ c.requires.several c.requires.some _ refl _ _ _ _ c.requires.running c.in_err-desk.ensures.rows)

pub print_failures_in-requires-clause-room : goal.print_failures_in-requires-clause-room
print_failures_in-requires-clause-room g c =
    let suite = selected_suite c.args.request.selection c.args.printer in
    let shows = c.as_slice-infos.ensures.value in
    let supplied = c.in_ok-infos.ensures.supplied in
    let kept = no_fault g.R.Task.gives suite _ _ _ _ shows supplied _ c.requires.several c.requires.some _ refl _ _ _ c.in_ok-desk.ensures.rows in
    omega (arith, kept, c.requires.room)

pub print_failures_in-requires-clause-can_show : goal.print_failures_in-requires-clause-can_show
print_failures_in-requires-clause-can_show g c =
    let suite = selected_suite c.args.request.selection c.args.printer in
    let shows = c.as_slice-infos.ensures.value in
    let supplied = c.in_ok-infos.ensures.supplied in
    can_show g.R.Task.gives suite _ _ _ _ shows supplied _ c.requires.several c.requires.some _ refl _ _ _ c.in_ok-desk.ensures.rows

pub end-requires : goal.end-requires
end-requires g c =
    let suite = selected_suite c.args.request.selection c.args.printer in
    let shows = c.as_slice-infos.ensures.value in
    let supplied = c.in_ok-infos.ensures.supplied in
    let kept = no_fault g.R.Task.gives suite _ _ _ _ shows supplied _ c.requires.several c.requires.some _ refl _ _ _ c.in_ok-desk.ensures.rows in
    omega (arith, kept, c.in_ok-print_failures_in.ensures.faults, c.add_summary.ensures.text.faults, c.requires.room)

pub returns-in_err-print_failures_in-clause-reported : goal.returns-in_err-print_failures_in-clause-reported
returns-in_err-print_failures_in-clause-reported g c =
    let suite = selected_suite c.args.request.selection c.args.printer in
    let shows = c.as_slice-infos.ensures.value in
    let supplied = c.in_ok-infos.ensures.supplied in
    on_error c.from_residual-in_err-print_failures_in.result _ _ _ c.from_residual-in_err-print_failures_in.ensures.1
    (failures_refused _ suite _ _ _ _ shows supplied _ c.requires.several c.requires.some _ refl _ _ _ c.in_ok-desk.ensures.rows _ _ c.in_err-print_failures_in.field-0.0 c.requires.running c.in_err-print_failures_in.ensures)

pub returns-in_err-end-clause-reported : goal.returns-in_err-end-clause-reported
returns-in_err-end-clause-reported g c =
    let suite = selected_suite c.args.request.selection c.args.printer in
    let shows = c.as_slice-infos.ensures.value in
    let supplied = c.in_ok-infos.ensures.supplied in
    let summary = c.add_summary.ensures in
    on_error c.from_residual-in_err-end.result _ _ _ c.from_residual-in_err-end.ensures.1
    (summary_refused _ suite _ _ _ _ shows supplied _ c.requires.several c.requires.some _ refl _ _ _ c.in_ok-desk.ensures.rows _ c.in_ok-print_failures_in.ensures
    _ c.count_outcomes-conclusion.ensures _ _ _ summary.elapsed c.in_err-end.field-0.0 (puts_added _ _ summary.text c.in_err-end.ensures))

pub returns-clause-reported : goal.returns-clause-reported
returns-clause-reported g c =
    let suite = selected_suite c.args.request.selection c.args.printer in
    let shows = c.as_slice-infos.ensures.value in
    let supplied = c.in_ok-infos.ensures.supplied in
    let summary = c.add_summary.ensures in
    reported_by _ suite _ _ _ _ shows supplied _ c.requires.several c.requires.some _ refl _ _ _ c.in_ok-desk.ensures.rows _ c.in_ok-print_failures_in.ensures
    _ c.count_outcomes-conclusion.ensures _ _ _ summary.elapsed summary.fits (puts_added _ _ summary.text c.in_ok-end.ensures)
