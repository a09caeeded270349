use Rattle.std.proofs.Common.{◌≡◌, ◌≤◌, ◌∙◌, ℕ, Bool, List, arith, inl, length, refl, sym}
use Rattle.libtest_mimic.specs.Prelude.{assigned_from, is_timed, IsOfRows, runs_all}
use Rattle.libtest_mimic.proofs.Arranged.{length_assigned}
use Rattle.libtest_mimic.specs.declared.running.RunError.TheVariants.{OutOfMemory, Write}
use Rattle.libtest_mimic.proofs.Gathering.{not_written, on_err, on_error, rows_titled, written_before}
use Rattle.libtest_mimic.proofs.running.in_workers.write_rows.Goals as goal

put_fits : {X : Type 0} (rs : List X) (bs : List Bool) (n : ℕ) → length rs ≡ n → length bs ≡ n → length (assigned_from 0 rs bs) ≤ n
put_fits rs bs n runners flags = omega (arith, length_assigned 0 rs bs (runners ∙ sym flags), runners)

pub returns-in_err-inbox-clause-rows : goal.returns-in_err-inbox-clause-rows
returns-in_err-inbox-clause-rows g c = λ rs bs runners flags held. on_error c.from_residual.result OutOfMemory _ _ c.from_residual.ensures.1 refl

pub returns-in_err-inbox-clause-unwritten : goal.returns-in_err-inbox-clause-unwritten
returns-in_err-inbox-clause-unwritten g c = not_written c.from_residual.result _ refl

pub returns-in_err-desk-clause-rows : goal.returns-in_err-desk-clause-rows
returns-in_err-desk-clause-rows g c = λ rs bs runners flags held. on_error c.from_residual-in_err-desk.result OutOfMemory _ _ c.from_residual-in_err-desk.ensures.1 refl

pub returns-in_err-desk-clause-unwritten : goal.returns-in_err-desk-clause-unwritten
returns-in_err-desk-clause-unwritten g c = not_written c.from_residual-in_err-desk.result _ refl

pub returns-in_err-room-clause-rows : goal.returns-in_err-room-clause-rows
returns-in_err-room-clause-rows g c = λ rs bs runners flags held. on_error c.from_residual-in_err-room.result OutOfMemory _ _ c.from_residual-in_err-room.ensures.1 refl

pub returns-in_err-room-clause-unwritten : goal.returns-in_err-room-clause-unwritten
returns-in_err-room-clause-unwritten g c = not_written c.from_residual-in_err-room.result _ refl

pub returns-in_err-print_title-clause-rows : goal.returns-in_err-print_title-clause-rows
returns-in_err-print_title-clause-rows g c = λ rs bs runners flags held. on_error c.from_residual-in_err-print_title.result (Write c.in_err-print_title.field-0.0) _ _ c.from_residual-in_err-print_title.ensures.1 (inl c.in_err-print_title.ensures)

pub returns-in_err-print_title-clause-unwritten : goal.returns-in_err-print_title-clause-unwritten
returns-in_err-print_title-clause-unwritten g c =
    let r = c.from_residual-in_err-print_title.result in
    written_before r _ (on_err r (Write c.in_err-print_title.field-0.0) IsOfRows c.from_residual-in_err-print_title.ensures.1 tt)

pub start_workers-requires-clause-ready : goal.start_workers-requires-clause-ready
start_workers-requires-clause-ready g c κs within =
    let h = c.requires.held in
    (assigned_from 0 h.0 h.1, c.in_ok-inbox.ensures.ready _ (put_fits h.0 h.1 _ h.2 h.3) h.4)

pub gather_rows-requires-clause-running : goal.gather_rows-requires-clause-running
gather_rows-requires-clause-running g c κs within =
    let h = c.requires.held in
    (c.args.test_mode, assigned_from 0 h.0 h.1, c.in-Some.ensures.started _ (c.in_ok-inbox.ensures.ready _ (put_fits h.0 h.1 _ h.2 h.3) h.4))

pub returns-clause-rows : goal.returns-clause-rows
returns-clause-rows g c = λ rs bs runners flags held.
    rows_titled g.R.Task.gives c.args.test_mode (assigned_from 0 rs bs) c.args.printer.now c.args.infos.now _ _ _ _ refl c.in_ok-print_title.ensures
    (runs_all c.in-Some.workers) (is_timed c.in_ok-inbox.inbox) _ c.in_ok-inbox.ensures.timed c.gather_rows.result
    (c.gather_rows.ensures.rows rs bs c.args.test_mode runners flags (c.in-Some.ensures.started _ (c.in_ok-inbox.ensures.ready _ (put_fits rs bs _ runners flags) held)))

pub returns-clause-unwritten : goal.returns-clause-unwritten
returns-clause-unwritten g c = written_before _ _ c.gather_rows.ensures.refused
