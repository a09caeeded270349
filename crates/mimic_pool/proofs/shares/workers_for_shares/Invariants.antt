use Rattle.std.proofs.Common.{◌≡◌, ◌++◌, ◌+◌, ◌≤◌, vec_capacity, vec_len}
use Rattle.std.specs.Vec.Iter.{into_iter_items, into_iter_len}
use Rattle.mimic_pool.specs.Shares.{shares_of}
use Rattle.mimic_pool.proofs.shares.workers_for_shares.Given as goal

abbrev pub invariant-loop-share : goal.invariant-loop-share
invariant-loop-share g l = record {
  shares : shares_of l.ready.items ++ into_iter_items l.share-iterator ≡ l.fn.shares.items;
  len : vec_len l.ready + into_iter_len l.share-iterator ≡ vec_len l.fn.shares;
  fits : vec_len l.ready + into_iter_len l.share-iterator ≤ vec_capacity l.ready;
}
