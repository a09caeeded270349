use Rattle.std.specs.Prelude.{◌≡◌, ◌≤◌, [], All, vec_capacity, vec_len}
use Rattle.mimic_pool.specs.Share.{HasRoom, IsDealt}
use Rattle.mimic_pool.proofs.share.empty_shares.Given as goal

abbrev pub invariant-loop-worker : goal.invariant-loop-worker
invariant-loop-worker g l = record {
  len : vec_len l.shares ≡ l.«_worker»;
  fits : l.workers ≤ vec_capacity l.shares;
  empty : IsDealt [] [] l.«_worker» l.shares.items;
  room : All (HasRoom l.room) l.shares.items;
}
