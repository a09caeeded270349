use Rattle.std.proofs.Common.{ap}
use Rattle.libtest_mimic.specs.Prelude.{asking, runner_of, Trial}
use Rattle.mimic_main.specs.Ended.{RanLine, number_of}
use Rattle.mimic_main.proofs.Parts.{all_taken, ends_in_part}
use Rattle.mimic_main.proofs.program.Program.run_part.Goals as goal

pub run_into-ran-requires-clause-runnable : goal.run_into-ran-requires-clause-runnable
run_into-ran-requires-clause-runnable g c κs within =
    let CanRun : Trial g.row.R.Denot → Type 0 = λ t. g.R.Task.can_run (runner_of t) in
    c.request-request.ensures.runnable (all_taken CanRun c.args.sharding.shard c.args.tests.items c.in-Ok.part.1.items c.in-Ok.ensures.trials c.requires)

pub returns : goal.returns
returns g c =
    let ask = asking g.R.Task.gives c.args.self.now.threads c.args.self.now.auto_colours in
    let request = c.request-request.result in
    let made = c.request-request.ensures in
    let ran = c.run_into-ran.ensures in
    let status = number_of c.status_of.result in
    let ended : RanLine (asking g.R.Task.gives request.default_threads request.auto_colours request.selection.handed_in.value.items request.selection.args.now) _ _ _ status = record {
      answer = c.run_into-ran.result.2;
      ended = c.status_of.ensures;
      ran = ran.ran;
      beginning = ran.beginning;
      nothing = λ some. ap g.M.Stdout.Write.contents (ran.nothing some);
      lawful = ran.lawful;
    } in
    ends_in_part ask c.args.tests.items c.in-Ok.part.1.items c.args.args c.in-Ok.part.0 c.args.sharding _ _ _ status
    c.in-Ok.ensures.args c.in-Ok.ensures.trials (rw (made.threads, made.colours, made.handed_in, made.args) at ended)
