use Rattle.std.proofs.Common.{◌∙◌, [], All, List, refl, subst, sym}
use Rattle.std.proofs.lemmas.List.Elements.{All-head, All-rest}
use Rattle.libtest_mimic.specs.Prelude.{assigned_from, runner_of, Trial}
use Rattle.libtest_mimic.proofs.Supplying.{put_all, put_next}
use Rattle.libtest_mimic.proofs.running.in_workers.take_apart.Goals as goal

pub loop-trial-init : goal.loop-trial-init
loop-trial-init g c = record {
  supplied = record {
    seen = [];
    are_all = c.new-left.ensures;
    put = record {
      runners = [];
      flags = [];
      parts = record { each_info = c.in_ok-infos.ensures.items; each_runner = refl; each_flag = tt };
      held = c.requires.empty;
    };
  };
  runnable = rw c.new-left.ensures c.requires.runnable;
  workers = refl;
}

pub put-requires-clause-held : goal.put-requires-clause-held
put-requires-clause-held g c =
    let put = c.loop-trial.invariant.supplied.put in
    (assigned_from 0 put.runners put.flags, put.held)

pub put-requires-clause-runnable : goal.put-requires-clause-runnable
put-requires-clause-runnable g c =
    let MayRun : Trial _ → Type 0 = λ trial. g.R.Task.can_run (runner_of trial) in
    let all = subst (λ (l : List (Trial _)). All MayRun l) c.in-Some.ensures c.loop-trial.invariant.runnable in
    subst g.R.Task.can_run (sym c.into_parts-info.ensures.runner) (All-head MayRun c.in-Some.trial c.next.new.self all)

pub loop-trial-preserved : goal.loop-trial-preserved
loop-trial-preserved g c = record {
  supplied = put_next g.R.Task.can_run c.args.args.now c.args.trials.items c.loop-trial.left c.next.new.self c.loop-trial.infos.items _ _ _
      c.in-Some.trial _ _ _ _ c.in-Some.ensures c.into_parts-info.ensures.info c.into_parts-info.ensures.runner c.is_ignored-is_ignored.ensures
      (c.len-in-Some.ensures ∙ c.loop-trial.infos.ok.0) c.in_ok-push.ensures.items c.in_ok-put.ensures.put c.loop-trial.invariant.supplied;
  runnable = All-rest (λ (trial : Trial _). g.R.Task.can_run (runner_of trial)) c.in-Some.trial c.next.new.self c.loop-trial.left c.in-Some.ensures c.loop-trial.invariant.runnable;
  workers = c.in_ok-put.ensures.workers ∙ c.loop-trial.invariant.workers;
}

pub returns : goal.returns
returns g c = record {
  supplied = put_all g.R.Task.can_run c.args.args.now _ _ c.args.trials.items c.loop-trial.left c.in_default.ensures.0 c.loop-trial.invariant.supplied;
  workers = c.loop-trial.invariant.workers;
}
