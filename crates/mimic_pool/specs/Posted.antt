-- What a board keeps inside: rows, and for each place whether it was reported. No public clause names these words.
use Rattle.std.specs.Prelude.{ℕ, ◌≡◌, ◌+◌, ◌≤◌, false, drop, eqb, length, slice_index_or}
use Rattle.std.specs.List.{list_any, IsDistinct}
use Rattle.mimic_trial.specs.Places.{places_of}
use Rattle.mimic_pool.specs.Board.{Posted}
use Rattle.mimic_pool.specs.declared.board.Board.TheInside.{Inside}

-- what a board with this inside shows
abbrev pub posted : Inside → Posted
posted board = record {
  places = length board.reported.items;
  workers = board.workers;
  closed = board.closed;
  order = board.rows.order;
  taken = board.rows.taken;
  waiting = board.rows.items;
}

-- a place is in the order exactly if it was reported, none is there twice, those that were not taken are the places of the rows that wait, and there is room for all
pub record IsBoard (board : Inside) : Type 0 where
  pub known : (place : ℕ) → list_any (eqb place) board.rows.order ≡ slice_index_or board.reported.items place false
  pub distinct : IsDistinct eqb board.rows.order
  pub taken : board.rows.taken ≤ length board.rows.order
  pub waiting : places_of board.rows.items ≡ drop board.rows.taken board.rows.order
  pub room : length board.reported.items ≤ length board.rows.order + board.rows.room
  pub closed : board.closed ≤ board.workers
