use Rattle.libtest_mimic.specs.Prelude.{asked_by}
use Rattle.mimic_main.specs.Run.{Ran}
use Rattle.mimic_main.proofs.Mapped.{IfOfRun-map_err, IfOk-map_err}
use Rattle.mimic_main.proofs.run.run_into.Goals as goal

pub returns-in_default-clause-ran : goal.returns-in_default-clause-ran
returns-in_default-clause-ran g c = λ no_logfile.
    let ran = rw c.new-output.ensures.bytes at c.run_buffered-out.ensures.ran in
    IfOk-map_err (Ran (asked_by g.R.Task.gives c.args.request) (g.O.Write.contents c.args.out) (g.O.Write.contents c.run_buffered-out.result.0)
    c.run_buffered-out.result.1) _ c.run_buffered-out.result.2 _ ran c.map_err.ensures.cases c.map_err.ensures.variant

pub returns-in_default-clause-beginning : goal.returns-in_default-clause-beginning
returns-in_default-clause-beginning g c = λ no_logfile.
    let beginning = rw c.new-output.ensures.bytes at c.run_buffered-out.ensures.beginning in
    IfOfRun-map_err _ c.run_buffered-out.result.2 _ beginning c.map_err.ensures.cases c.map_err.ensures.variant
