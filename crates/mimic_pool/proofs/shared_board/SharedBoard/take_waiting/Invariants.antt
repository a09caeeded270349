use Rattle.std.proofs.Common.{◌≡◌, ◌+◌, ◌≤◌}
use Rattle.std.specs.VecDeque.{deque_capacity, deque_len}
use Rattle.mimic_pool.proofs.shared_board.SharedBoard.take_waiting.Given as goal

abbrev pub invariant-loop : goal.invariant-loop
invariant-loop g l = record {
  room : deque_len l.rows + l.most ≤ deque_capacity l.rows + l.counter;
  capacity : deque_capacity l.rows ≡ deque_capacity l.fn.rows;
}
