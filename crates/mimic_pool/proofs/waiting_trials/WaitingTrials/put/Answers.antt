use Rattle.std.proofs.Common.{◌≡◌, ◌∙◌, ap, length, rules, subst, sym, vec_len}
use Rattle.mimic_pool.specs.WaitingTrials.{awaited, Holds}
use Rattle.mimic_pool.proofs.Dealing.{on_ok}
use Rattle.mimic_pool.proofs.Sharing.{deals_one}
use Rattle.mimic_pool.proofs.waiting_trials.WaitingTrials.put.Goals as goal

pub returns-in-Shares : goal.returns-in-Shares
returns-in-Shares g c = record {
  put =
      let old = c.in-Shares.shares in
      let before : length old.items ≡ vec_len old = search rules in
      let after : length c.deal_next.new.shares.items ≡ vec_len old = search rules in
      on_ok c.deal_next.result (λ dealt trials held. deals_one g.T.Task.can_run old.items c.deal_next.new.shares.items (vec_len old) trials _ before after dealt c.requires.runnable (subst (λ waiting. Holds g.T.Task.can_run waiting trials) c.in-Shares.is held)) c.deal_next.ensures.dealt;
  workers = c.deal_next.ensures.len ∙ ap awaited (sym c.in-Shares.is);
}
