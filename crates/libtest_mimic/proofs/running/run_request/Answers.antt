use Rattle.std.proofs.Common.{◌≡◌, ◌∙◌, [], ap, arith, length, sym}
use Rattle.std.proofs.lemmas.Bool.{eqb-true}
use Rattle.std.proofs.lemmas.List.{nil_from_length}
use Rattle.libtest_mimic.specs.Prelude.{selected_suite}
use Rattle.libtest_mimic.proofs.Answered.{by_any_number, is_run}
use Rattle.libtest_mimic.proofs.running.run_request.Goals.{then-threads-eq1-via-then-threads-eq1, then-threads-eq1-via-else-threads-eq1+then-is_empty}
use Rattle.libtest_mimic.proofs.running.run_request.Goals as goal

pub returns-then-threads-eq1 : goal.returns-then-threads-eq1
returns-then-threads-eq1 g c =
    let request = c.args.request in
    let ran = c.run_in_order.ensures in
    elim c.then-threads-eq1.branch [
      | then-threads-eq1-via-then-threads-eq1 w ↦
          let one = sym w.if-threads-eq1.true ∙ c.threads-threads.ensures in
          is_run g.R.Task.gives request c.requires.selected c.printer-printer.result _ _ c.printer-printer.ensures (rw one at ran.reported) c.if-request.false (λ none. absurd (omega (arith, one, none))) ran.unwritten
      | then-threads-eq1-via-else-threads-eq1+then-is_empty w ↦
          let none : request.selection.trials.items ≡ [] = nil_from_length _ (ap length (sym c.as_slice-trials.ensures.value) ∙ eqb-true _ _ (sym w.is_empty.ensures ∙ w.if-is_empty.true)) in
          is_run g.R.Task.gives request c.requires.selected c.printer-printer.result _ _ c.printer-printer.ensures
          (by_any_number g.R.Task.gives _ (selected_suite request.selection c.printer-printer.result) _ _ _ _ none ran.reported) c.if-request.false (λ _ some. absurd (some none)) ran.unwritten
    ]

pub returns : goal.returns
returns g c =
    let ran = c.run_in_workers.ensures in
    is_run g.R.Task.gives c.args.request c.requires.selected c.printer-printer.result _ _ c.printer-printer.ensures ran.reported c.if-request.false
    (λ none. absurd (c.if-threads-eq0.false (c.threads-threads.ensures ∙ none))) ran.unwritten
