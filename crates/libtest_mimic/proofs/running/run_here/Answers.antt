use Rattle.std.proofs.Common.{◌∙◌, None, ap, arith}
use Rattle.mimic_pool.specs.declared.waiting_trials.Schedule.TheVariants.{Queue}
use Rattle.libtest_mimic.specs.Prelude.{Request}
use Rattle.libtest_mimic.proofs.Answered.{is_run}
use Rattle.libtest_mimic.proofs.running.run_here.Goals as goal

pub returns : goal.returns
returns g c =
    let request : Request _ = record { selection = c.new.result; default_threads = 1; auto_colours = c.args.auto_colours; schedule = Queue; running = None } in
    let ran = c.run_in_order.ensures in
    let run = is_run g.R.Task.gives request c.new.ensures.selected c.printer-printer.result 1 _ c.printer-printer.ensures ran.reported (ap (λ a. a.list) c.new.ensures.args ∙ c.if-args.false) (λ none. absurd (omega (arith, none))) ran.unwritten in
    rw (c.new.ensures.args, c.new.ensures.handed_in) at run
