-- A board that workers report rows to, each an outcome at a place, and what its calls make of it.
use Rattle.std.specs.Prelude.{ℕ, ◌≡◌, ◌<◌, ◌≤◌, ◌+◌, ◌==◌, nat_lt, Bool, not, ◌&&◌, if◌then◌else◌, All, List, [], ◌∷◌, ◌++◌, drop, eqb, length, min, take}
use Rattle.std.specs.List.{list_any, IsDistinct}
use Rattle.mimic_trial.specs.Places.{Placed, places_of}
use Rattle.mimic_pool.specs.Arrivals.{first_arrivals}

-- what a board shows: how many places and workers it is for, how many workers have closed, the places that were reported, in their order, how many of them were taken, and the rows that wait
pub record Posted : Type 0 where
  pub places : ℕ
  pub workers : ℕ
  pub closed : ℕ
  pub order : List ℕ
  pub taken : ℕ
  pub waiting : List Placed

-- nothing was reported, and no worker has closed
abbrev pub empty_board : ℕ → ℕ → Posted
empty_board places workers = record { places = places; workers = workers; closed = 0; order = []; taken = 0; waiting = [] }

-- the place is one of the board's, and was not reported
abbrev pub accepts : Posted → ℕ → Bool
accepts board place = nat_lt place board.places && not (list_any (λ other. place == other) board.order)

-- the board after a report: a row that is accepted is the last one
abbrev pub after_report : Posted → Placed → Posted
after_report board row = if accepts board row.0 then record board { order = board.order ++ row.0 ∷ []; waiting = board.waiting ++ row ∷ [] } else board

-- the board after its first waiting row was taken, if there is one
abbrev pub after_take : Posted → Posted
after_take board = record board { taken = board.taken + min 1 (length board.waiting); waiting = drop 1 board.waiting }

-- the board after one more worker has closed, of those that there are
abbrev pub after_close : Posted → Posted
after_close board = record board { closed = min (board.closed + 1) board.workers }

-- each reported place is one of the board's and was reported once, those that were not taken are the places of the rows that wait, in their order, and no more workers have closed than there are
pub record HasHistory (board : Posted) : Type 0 where
  pub distinct : IsDistinct eqb board.order
  pub below : All (λ place. place < board.places) board.order
  pub taken : board.taken ≤ length board.order
  pub waiting : places_of board.waiting ≡ drop board.taken board.order
  pub closed : board.closed ≤ board.workers

-- the board is one that these reports made: it has of each place the first one, in their order, and those that were not taken wait (our own)
pub record Agrees (board : Posted) (reports : List Placed) : Type 0 where
  pub order : board.order ≡ places_of (first_arrivals board.places reports)
  pub waiting : board.waiting ≡ drop board.taken (first_arrivals board.places reports)

-- ---- any calls

-- a call that changes a board
pub data Call : Type 0 where
  report : Placed → Call
  take_one : Call
  close_one : Call

-- the board after a call
abbrev pub after : Posted → Call → Posted
after board (report row) = after_report board row
after board take_one = after_take board
after board close_one = after_close board

-- the board after these calls, one after another
abbrev pub after_all : Posted → List Call → Posted
after_all board [] = board
after_all board (call ∷ calls) = after_all (after board call) calls

-- the rows that a call gives
abbrev pub given_by : Posted → Call → List Placed
given_by board (report row) = []
given_by board take_one = take 1 board.waiting
given_by board close_one = []

-- the rows that these calls give, one after another
abbrev pub given_by_all : Posted → List Call → List Placed
given_by_all board [] = []
given_by_all board (call ∷ calls) = given_by board call ++ given_by_all (after board call) calls

-- the reports among the calls, accepted or not
abbrev pub reports_of : List Call → List Placed
reports_of [] = []
reports_of (report row ∷ calls) = row ∷ reports_of calls
reports_of (take_one ∷ calls) = reports_of calls
reports_of (close_one ∷ calls) = reports_of calls

-- what the calls on a new board gave, and after it what still waits, is of each place the first report, in their order (our own)
abbrev pub HandsOnFirstReports : Type 0
HandsOnFirstReports =
    (places workers : ℕ) (calls : List Call) → let board = empty_board places workers in
    given_by_all board calls ++ (after_all board calls).waiting ≡ first_arrivals places (reports_of calls)
