use Rattle.std.proofs.Common.{◌∙◌, ◌%◌, ◌∷◌, ◌++◌, [], ap, append_assoc, arith, eqb, length-append, refl, sym}
use Rattle.mimic_trial.proofs.MoreItems.{shard_more}
use Rattle.mimic_trial.proofs.AllShards.{shards_are_all}
use Rattle.mimic_trial.proofs.shard.shard_of.Goals as goal

pub returns-in_err-push_if-clause-law : goal.returns-in_err-push_if-clause-law
returns-in_err-push_if-clause-law g c = shards_are_all

pub loop-test-preserved : goal.loop-test-preserved
loop-test-preserved g c =
    let i = c.loop-test.invariant in
    let seen = c.loop-test.yielded in
    record {
      seen = append_assoc seen (c.in-Some.test ∷ []) _ ∙ (ap (λ l. seen ++ l) (sym c.in-Some.ensures.steps.0) ∙ i.seen);
      place = omega (arith, i.place, length-append seen (c.in-Some.test ∷ []));
      left = omega (arith, i.left, c.in-Some.ensures.steps);
      kept = shard_more c.args.shard.count c.args.shard.index c.loop-test.place seen c.loop-test.kept.items c.push_if.new.kept.items c.in-Some.test (eqb (c.loop-test.place % c.args.shard.count) c.args.shard.index) i.place i.kept refl
          c.in_ok-push_if.ensures;
    }

pub returns-clause-law : goal.returns-clause-law
returns-clause-law g c = shards_are_all
