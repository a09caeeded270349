-- What an inbox is for.
use Rattle.std.specs.Prelude.{Bool, ◌≤◌}
use Rattle.std.specs.VecDeque.{deque_capacity}
use Rattle.mimic_pool.specs.Board.{Posted}
use Rattle.mimic_pool.specs.declared.inbox.Inbox.{Inbox}

-- the board of the inbox before anything was reported
abbrev pub board_of : Inbox → Posted
board_of inbox = inbox.empty.value

-- whether workers note in it how long trials ran
abbrev pub is_timed : Inbox → Bool
is_timed inbox = inbox.timed

-- it has room for a row that it takes from the board
abbrev pub CanTake : Inbox → Type 0
CanTake inbox = 1 ≤ deque_capacity inbox.batch
