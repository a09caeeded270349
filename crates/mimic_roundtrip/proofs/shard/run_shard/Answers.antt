use Rattle.std.proofs.Common.{All, subst, sym}
use Rattle.mimic_trial.specs.Trial.{runner_of}
use Rattle.mimic_roundtrip.proofs.ShardLaws.{shard_laws}
use Rattle.mimic_trial.proofs.AllShards.{all_of_shard}
use Rattle.mimic_roundtrip.proofs.ShardRuns.{shard_reports}
use Rattle.mimic_roundtrip.proofs.shard.run_shard.Goals as goal

pub run_to_report-requires-clause-runnable : goal.run_to_report-requires-clause-runnable
run_to_report-requires-clause-runnable g c =
    subst (All (λ t. g.R.Task.can_run (runner_of t))) (sym c.in_ok-trials.ensures.shard)
    (all_of_shard (λ t. g.R.Task.can_run (runner_of t)) c.args.shard.count c.args.shard.index c.args.tests.items c.requires.runnable)

pub returns-clause-run : goal.returns-clause-run
returns-clause-run g c = rw c.in_ok-trials.ensures.shard at c.run_to_report.ensures

pub returns-clause-trials : goal.returns-clause-trials
returns-clause-trials g c = shard_reports g.R.Task.gives c.args.args c.in_ok-trials.trials.items _ c.run_to_report.new.watch c.run_to_report.result c.in_ok-trials.ensures.shard c.run_to_report.ensures

pub returns-clause-laws : goal.returns-clause-laws
returns-clause-laws g c = shard_laws g.R.Task.gives

pub returns-in_err-trials-clause-laws : goal.returns-in_err-trials-clause-laws
returns-in_err-trials-clause-laws g c = shard_laws g.R.Task.gives
