use Rattle.mimic_pool.specs.WaitingTrials.{awaited, Holds}
use Rattle.std.proofs.Common.{◌∙◌, ap, subst, sym}
use Rattle.mimic_pool.proofs.waiting_trials.WaitingTrials.prepare.Goals as goal

pub returns-in_ok-inbox-in-Shares : goal.returns-in_ok-inbox-in-Shares
returns-in_ok-inbox-in-Shares g c = record {
  inbox = c.in_ok-inbox-in-Shares.ensures.inbox;
  timed = c.in_ok-inbox-in-Shares.ensures.timed;
  workers = c.in_ok-inbox-in-Shares.ensures.workers ∙ ap awaited (sym c.in-Shares.is);
  ready = λ trials fits held. c.in_ok-inbox-in-Shares.ensures.ready trials (subst (λ waiting. Holds g.T.Task.can_run waiting trials) c.in-Shares.is held);
}

pub returns-in_ok-inbox-in-Queue : goal.returns-in_ok-inbox-in-Queue
returns-in_ok-inbox-in-Queue g c = record {
  inbox = c.in_ok-inbox-in-Queue.ensures.inbox;
  timed = c.in_ok-inbox-in-Queue.ensures.timed;
  workers = c.in_ok-inbox-in-Queue.ensures.workers ∙ ap awaited (sym c.in-Queue.is);
  ready = λ trials fits held. c.in_ok-inbox-in-Queue.ensures.ready trials fits (subst (λ waiting. Holds g.T.Task.can_run waiting trials) c.in-Queue.is held);
}
