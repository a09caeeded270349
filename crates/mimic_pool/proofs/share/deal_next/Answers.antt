use Rattle.std.proofs.Common.{◌%◌, ◌∙◌, ap, arith, refl}
use Rattle.std.proofs.Math.Seq.{map-set_same}
use Rattle.std.proofs.lemmas.Nat.{mod_below}
use Rattle.mimic_pool.specs.Share.{items_of}
use Rattle.mimic_pool.proofs.Dealing.{dealt_more, on_refusal}
use Rattle.mimic_pool.proofs.share.deal_next.Goals as goal

pub returns-in_err-push-clause-refused : goal.returns-in_err-push-clause-refused
returns-in_err-push-clause-refused g c =
    on_refusal c.from_residual.result (map-set_same items_of c.args.shares.now.items (c.args.place % c.len.result) _ _ (c.in_err-push.ensures.items ∙ ap items_of c.index_mut.ensures.value))

pub returns-clause-dealt : goal.returns-clause-dealt
returns-clause-dealt g c = λ trials dealt.
    let below = mod_below c.args.place c.len.result (omega (arith, c.len.ensures, c.requires.some_worker)) in
    dealt_more _ c.args.place _ _ _ _ trials _ refl (ap (λ n. c.args.place % n) c.len.ensures)
    (omega (arith, below, c.len.ensures, c.args.shares.now.ok.0)) c.index_mut.ensures.value c.in_ok-push.ensures.items dealt
