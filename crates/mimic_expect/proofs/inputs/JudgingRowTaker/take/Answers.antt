use Rattle.std.proofs.Common.{◌∷◌, [], ap, arith, length, subst}
use Rattle.mimic_printer.specs.Sink.{Adds}
use Rattle.mimic_printer.proofs.Adding.{puts_added}
use Rattle.mimic_printer.specs.declared.sink.OutputFault.TheVariants.{Write}
use Rattle.mimic_events.specs.Contents.{entry_read}
use Rattle.mimic_events.proofs.Results.{on_error}
use Rattle.mimic_expect.proofs.Judged.{judges_then, lines_then, one_line, room}
use Rattle.mimic_expect.proofs.inputs.JudgingRowTaker.take.Goals as goal

pub returns-in_err-end : goal.returns-in_err-end
returns-in_err-end g c start entries taken =
    let fault = Write c.in_err-end.field-0.0 in
    let j = c.args.self.now in
    let row = rw c.in-Some.is at c.in_ok-unknown.ensures in
    let added = subst (Adds _ _ _) (one_line j.lines j.judge.now.known (entry_read c.args.row) (entry_read c.in-Some.unknown) row.2) c.add_to.ensures in
    let put = puts_added _ _ added c.in_err-end.ensures in
    on_error _ fault _ _ c.from_residual-in_err-end.ensures.1
    (taken.0, taken.2.0, lines_then _ _ entries (entry_read c.args.row ∷ []) _ _ _ _ fault taken.3 (rw taken.1 at put))

pub overflow_add-self : goal.overflow_add-self
overflow_add-self g c =
    let taken = c.requires in
    omega (arith, room taken.1 _ _ _ _ _ taken.3 taken.2.3)

pub returns : goal.returns
returns g c start entries taken =
    let j = c.args.self.now in
    let row = rw c.in-Some.is at c.in_ok-unknown.ensures in
    let added = subst (Adds _ _ _) (one_line j.lines j.judge.now.known (entry_read c.args.row) (entry_read c.in-Some.unknown) row.2) c.add_to.ensures in
    let put = puts_added _ _ added c.in_ok-end.ensures in (
      taken.0,
      taken.1,
      (taken.2.0, omega (arith, put.faults, taken.2.1)),
      judges_then _ _ _ entries (entry_read c.args.row ∷ []) _ 1 _ _ _ taken.3
          (record { known = row.0; kept = row.1; counted = ap length row.2; put = rw taken.1 at put }),
    )
