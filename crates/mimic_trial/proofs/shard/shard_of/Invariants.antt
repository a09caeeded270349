use Rattle.std.specs.Prelude.{◌≡◌, ◌+◌, ◌++◌, length, vec_len}
use Rattle.std.specs.Vec.Iter.{into_iter_items, into_iter_len}
use Rattle.mimic_trial.specs.Shard.{shard_of}
use Rattle.mimic_trial.proofs.shard.shard_of.Given as goal

abbrev pub invariant-loop-test : goal.invariant-loop-test
invariant-loop-test g l = record {
  seen : l.yielded ++ into_iter_items l.test-iterator ≡ l.fn.tests.items;
  place : l.place ≡ length l.yielded;
  left : l.place + into_iter_len l.test-iterator ≡ vec_len l.fn.tests;
  kept : l.kept.items ≡ shard_of l.shard.count l.shard.index l.yielded;
}
