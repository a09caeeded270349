use Rattle.std.specs.Prelude.{◌≡◌, ◌+◌, ◌++◌, length, take, vec_len}
use Rattle.std.specs.Vec.Iter.{into_iter_items, into_iter_len}
use Rattle.mimic_pool.specs.Share.{IsDealt}
use Rattle.mimic_pool.proofs.share.deal.Given as goal

abbrev pub invariant-loop-runner : goal.invariant-loop-runner
invariant-loop-runner g l = record {
  len : vec_len l.shares ≡ l.workers;
  seen : l.yielded ++ into_iter_items l.runner-iterator ≡ l.fn.runners.items;
  place : l.place ≡ length l.yielded;
  left : l.place + into_iter_len l.runner-iterator ≡ vec_len l.ignored;
  dealt : IsDealt l.yielded (take l.place l.ignored.items) l.workers l.shares.items;
}
