use Rattle.std.proofs.Common.{◌≡◌, ◌∙◌, ◌+◌, ◌∷◌, ◌++◌, ◌<◌, [], List, Bool, ap, append_assoc, arith, length, length-append, length-take, subst, sym, take}
use Rattle.std.proofs.lemmas.List.{take_more}
use Rattle.mimic_pool.specs.Prelude.{AreShares, Assigned, assigned_from, IsDealt}
use Rattle.mimic_pool.proofs.Dealing.{assigned_more}
use Rattle.mimic_pool.proofs.share.deal.Goals as goal

pub loop-runner-preserved : goal.loop-runner-preserved
loop-runner-preserved g c =
    let seen = c.loop-runner.yielded in
    let flags = c.args.ignored.items in
    let place = c.loop-runner.place in
    let invariant = c.loop-runner.invariant in
    let low : place < length flags = omega (arith, invariant.left, c.in-Some.ensures.steps, c.args.ignored.ok.0) in
    let next : take (place + 1) flags ≡ take place flags ++ c.index.result.now ∷ [] =
    take_more flags place c.index.result.now low ∙ ap (λ b. take place flags ++ b ∷ []) (sym c.index.ensures) in
    record {
      len = c.in_ok-deal_next.ensures.len ∙ invariant.len;
      seen = append_assoc seen (c.in-Some.runner ∷ []) _ ∙ (ap (λ l. seen ++ l) (sym c.in-Some.ensures.steps.0) ∙ invariant.seen);
      place = omega (arith, invariant.place, length-append seen (c.in-Some.runner ∷ []));
      left = omega (arith, invariant.left, c.in-Some.ensures.steps);
      dealt =
          let before : AreShares (assigned_from 0 seen (take place flags)) c.args.workers c.loop-runner.shares.items = invariant.dealt in
          let few : length (take place flags) ≡ place = omega (arith, length-take place flags, low) in
          let more = assigned_more 0 place seen (take place flags) c.in-Some.runner c.index.result.now (omega (arith, invariant.place)) (omega (arith, invariant.place, few)) in
          let item : Assigned _ = record { place = place; runner = c.in-Some.runner; ignored = c.index.result.now } in
          let after = subst (λ (n : _). AreShares (assigned_from 0 seen (take place flags) ++ item ∷ []) n c.deal_next.new.shares.items) invariant.len
          (c.in_ok-deal_next.ensures.dealt (assigned_from 0 seen (take place flags)) (subst (λ (n : _). AreShares (assigned_from 0 seen (take place flags)) n c.loop-runner.shares.items) (sym invariant.len) before)) in
          subst (λ (l : List Bool). IsDealt (seen ++ c.in-Some.runner ∷ []) l c.args.workers c.deal_next.new.shares.items) (sym next)
          (subst (λ (l : List (Assigned _)). AreShares l c.args.workers c.deal_next.new.shares.items) (sym more) after);
    }
