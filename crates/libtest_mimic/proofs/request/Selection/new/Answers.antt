use Rattle.libtest_mimic.specs.Prelude.{IsDropped, runner_of}
use Rattle.libtest_mimic.proofs.Selecting.{All-LeavesOut}
use Rattle.libtest_mimic.proofs.request.Selection.new.Goals as goal

pub returns-clause-runnable : goal.returns-clause-runnable
returns-clause-runnable g c all =
    All-LeavesOut (λ t. IsDropped c.args.args.now t) (λ t. g.R.Task.can_run (runner_of t)) c.args.tests.items _ c.drop_others-filtered_out.ensures.selection all
