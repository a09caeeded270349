use Rattle.std.proofs.Common.{◌≡◌, ◌+◌, ◌≤◌, All, vec_capacity, vec_len}
use Rattle.std.specs.Arc.{arc_value}
use Rattle.crossbeam_queue.specs.SegTies.{IsSegPassOf}
use Rattle.mimic_pool.specs.Prelude.{account_of, all_parts, IsFresh}
use Rattle.mimic_pool.proofs.queue.workers_at_queue.Given as goal

abbrev pub invariant-loop-number : goal.invariant-loop-number
invariant-loop-number g l = record {
  ours : IsSegPassOf (arc_value l.queue).queue l.pass;
  len : vec_len l.ready ≡ l.number;
  fits : l.workers ≤ vec_capacity l.ready;
  parts : (account_of l.pass).parts + l.number ≡ all_parts;
  put : (account_of l.pass).put ≡ (account_of l.fn.pass).put;
  taken : (account_of l.pass).taken ≡ (account_of l.fn.pass).taken;
  fresh : All (IsFresh (arc_value l.queue).queue) l.ready.items;
}
