use Rattle.std.proofs.Common.{◌≡◌, ◌+◌, ◌++◌, ◌<◌, ◌≤◌, length, vec_capacity, vec_len}
use Rattle.std.specs.Arc.{arc_value}
use Rattle.std.specs.List.{flat_map}
use Rattle.crossbeam_queue.specs.SegTies.{IsSegPassOf}
use Rattle.mimic_pool.specs.Prelude.{account_of, all_parts, AnswersSome}
use Rattle.mimic_pool.proofs.queue.EndedWorkers.take_left.Given as goal

abbrev pub invariant-loop : goal.invariant-loop
invariant-loop g l = record {
  ours : IsSegPassOf (arc_value l.queue).queue l.pass;
  parts : (account_of l.pass).parts ≡ all_parts;
  put : (account_of l.pass).put ≡ (account_of l.fn.self.pass).put;
  room : vec_len l.joined < vec_capacity l.joined;
  fits : length (account_of l.pass).put ≤ length (account_of l.pass).taken + l.rows.room;
  answered : AnswersSome g.T.Task.gives l.test_mode l.whole (account_of l.pass).taken (flat_map (λ rows. rows.items) l.joined.items ++ l.rows.items);
}
