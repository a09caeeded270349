use Rattle.std.proofs.Common.{ℕ, ◌≡◌, ◌≢◌, ◌≤◌, Some, vec_capacity, vec_len}
use Rattle.std.specs.Prelude.{slice_get}
use Rattle.libtest_mimic.specs.Prelude.{arrived_at, Outcome}
use Rattle.libtest_mimic.proofs.running.gathering.others_than.Given as goal

abbrev pub invariant-loop-place : goal.invariant-loop-place
invariant-loop-place l = record {
  len : vec_len l.room ≡ l.place;
  fits : l.count ≤ vec_capacity l.room;
  others : (place : ℕ) (o : Outcome) → arrived_at place l.desk.rows ≡ Some o → slice_get l.room.items place ≢ Some o;
}
