use Rattle.std.proofs.Common.{append_assoc, arith}
use Rattle.std.proofs.lemmas.List.{map-append}
use Rattle.mimic_pool.proofs.shares.workers_for_shares.Goals as goal

pub loop-share-preserved : goal.loop-share-preserved
loop-share-preserved g c =
    let next = c.in-Some.ensures.steps in
    let shares = rw next.0 at c.loop-share.invariant.shares in
    let pushed = c.push_reserved.ensures in
    record {
      shares = rw (pushed.items, map-append, append_assoc) shares;
      len = omega (arith, c.loop-share.invariant.len, pushed.len, next.1);
      fits = omega (arith, c.loop-share.invariant.fits, pushed.len, next.1, pushed.capacity);
    }
