use Rattle.std.proofs.Common.{◌∙◌, arith, subst, refl, sym}
use Rattle.std.proofs.lemmas.List.Sorted.{IsPermutation-refl}
use Rattle.libtest_mimic.specs.Prelude.{Conclusion, in_order, IsRunning, Reported, rows_of, selected_suite, shown}
use Rattle.mimic_printer.proofs.Adding.{puts_added}
use Rattle.libtest_mimic.specs.declared.running.RunError.TheVariants.{Write}
use Rattle.libtest_mimic.proofs.Gathering.{on_error}
use Rattle.libtest_mimic.proofs.WholeReport.{reported_ran, start_added, starts_before, starts_ran}
use Rattle.libtest_mimic.proofs.running.in_order.run_in_order.Goals as goal

pub end-requires : goal.end-requires
end-requires g c =
    let rows = c.run_rows.ensures.rows in
    omega (arith, c.add_title.ensures.faults, rows.text.faults, (c.add_failures.ensures _ _ rows.tally).faults, c.requires.room)

pub end-requires-2 : goal.end-requires-2
end-requires-2 g c =
    let rows = c.run_rows.ensures.rows in
    omega (arith, c.add_title.ensures.faults, rows.text.faults, (c.add_failures.ensures _ _ rows.tally).faults, c.in_ok-end.ensures.counted.1, c.add_summary.ensures.text.faults, c.requires.room)

pub returns-in_err-end-clause-reported : goal.returns-in_err-end-clause-reported
returns-in_err-end-clause-reported g c =
    let suite = selected_suite c.args.request.selection c.args.printer in
    let rows = c.run_rows.ensures.rows in
    let failures = c.add_failures.ensures _ (rows_of suite rows.placed) rows.tally in
    let count = c.len-count.ensures ∙ c.args.request.selection.trials.ok.0 in
    let start = start_added g.R.Task.gives suite rows _ count c.add_title.ensures failures in
    on_error c.from_residual-in_err-end.result (Write c.in_err-end.field-0.0) _ _ c.from_residual-in_err-end.ensures.1 (
      in_order suite,
      IsPermutation-refl (in_order suite),
      (λ one. refl),
      (λ none. absurd (omega (arith, none))),
      starts_before g.R.Task.gives suite rows _ count c.add_title.ensures failures _ _ (subst IsRunning (sym c.run_rows.ensures.readings) c.requires.running) (puts_added _ _ start c.in_err-end.ensures),
    )

pub returns-in_err-end-2-clause-reported : goal.returns-in_err-end-2-clause-reported
returns-in_err-end-2-clause-reported g c =
    let suite = selected_suite c.args.request.selection c.args.printer in
    let rows = c.run_rows.ensures.rows in
    let failures = c.add_failures.ensures _ (rows_of suite rows.placed) rows.tally in
    let count = c.len-count.ensures ∙ c.args.request.selection.trials.ok.0 in
    let start = start_added g.R.Task.gives suite rows _ count c.add_title.ensures failures in
    let summary = c.add_summary.ensures in
    on_error c.from_residual-in_err-end-2.result (Write c.in_err-end-2.field-0.0) _ _ c.from_residual-in_err-end-2.ensures.1 (
      in_order suite,
      IsPermutation-refl (in_order suite),
      (λ one. refl),
      (λ none. absurd (omega (arith, none))),
      starts_ran g.R.Task.gives suite rows _ count c.add_title.ensures failures c.in_ok-end.ensures.counted.0 _ (puts_added _ _ start c.in_ok-end.ensures) _ _ summary.nanos _ c.conclusion.ensures summary.elapsed
          (puts_added _ _ summary.text c.in_err-end-2.ensures),
    )

pub returns-clause-reported : goal.returns-clause-reported
returns-clause-reported g c =
    let suite = selected_suite c.args.request.selection c.args.printer in
    let rows = c.run_rows.ensures.rows in
    let failures = c.add_failures.ensures _ (rows_of suite rows.placed) rows.tally in
    let count = c.len-count.ensures ∙ c.args.request.selection.trials.ok.0 in
    let start = start_added g.R.Task.gives suite rows _ count c.add_title.ensures failures in
    let summary = c.add_summary.ensures in
    let P : Conclusion → Type 0 = Reported g.R.Task.gives 1 suite (shown g.W.Write.contents c.args.sink.now) (shown g.W.Write.contents c.end-2.new.self) c.add_summary.new.watch in
    subst P (c.conclusion.ensures ∙ sym c.into_conclusion.ensures)
    (reported_ran g.R.Task.gives suite rows _ count c.add_title.ensures failures c.in_ok-end.ensures.counted.0 _ (puts_added _ _ start c.in_ok-end.ensures) _ _ summary.nanos _ c.conclusion.ensures summary.elapsed
    summary.fits (puts_added _ _ summary.text c.in_ok-end-2.ensures))
