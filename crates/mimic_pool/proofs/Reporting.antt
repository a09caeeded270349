-- What calls make of what a board shows, beside the reports that it agrees with, and of what it keeps inside.
use Rattle.std.proofs.Common.{◌≡◌, ◌∙◌, ℕ, suc, zero, ◌+◌, ◌<◌, ◌≤◌, nat_lt, eqb, Bool, true, false, not, ◌&&◌, cond, List, [], ◌∷◌, ◌++◌, Option, drop, length, refl, sym, ap, append_assoc, append-nil, arith, take, None, Some, length-append, min, slice_index_or, slice_set, subst, ap₂}
use Rattle.std.specs.List.{list_any}
use Rattle.std.specs.Prelude.{min, slice_get, IfNone, IfSome}
use Rattle.std.proofs.lemmas.List.{drop-append-le, drop-drop, length-map, map-append, take-append-drop, get_or-set_other, get_or_default}
use Rattle.std.proofs.lemmas.Bool.Decides.{nat_tests}
use Rattle.std.specs.Vec.{with_item}
use Rattle.std.proofs.Math.ListN.{length-set}
use Rattle.std.proofs.lemmas.Cmp.{nat_eq_equiv}
use Rattle.std.proofs.lemmas.Grind.{get_or-set_at}
use Rattle.std.proofs.lemmas.Map.Views.{All-from_any}
use Rattle.mimic_pool.specs.Prelude.{accepts, after_all, after_close, after_report, after_take, Agrees, Call, close_one, empty_board, first_arrivals, given_by_all, HandsOnFirstReports, has_come, HasHistory, IsBoard, Placed, places_of, Posted, posted, report, reports_of, Returned, take_one}
use Rattle.mimic_pool.specs.declared.board.Board.TheInside.{Inside}
use Rattle.mimic_pool.proofs.FirstArrivals.{first_more}
use Rattle.mimic_pool.proofs.Ordering.{has_place}
use Rattle.mimic_pool.proofs.Numbering.{distinct_more, flags_more, room_left}

-- ---- whether a report is accepted

module _ (board : Posted) (p : ℕ) where
  pub refused_high : board.places ≤ p → accepts board p ≡ false
  refused_high high = let e : nat_lt p board.places ≡ false = grind (arith, nat_tests) in ap (λ t. t && not (list_any (eqb p) board.order)) e

  pub refused_again : p < board.places → list_any (eqb p) board.order ≡ true → accepts board p ≡ false
  refused_again low again =
      let e : nat_lt p board.places ≡ true = grind (arith, nat_tests) in
      ap (λ t. nat_lt p board.places && not t) again ∙ ap (λ t. t && false) e

  pub accepted_free : p < board.places → list_any (eqb p) board.order ≡ false → accepts board p ≡ true
  accepted_free low free =
      let e : nat_lt p board.places ≡ true = grind (arith, nat_tests) in
      ap (λ t. nat_lt p board.places && not t) free ∙ ap (λ t. t && true) e

-- the board after a report that is accepted, or is not
reported : Bool → Posted → Placed → Posted
reported t board row = cond t (record board { order = board.order ++ row.0 ∷ []; waiting = board.waiting ++ row ∷ [] }) board

pub report_refused : (board : Posted) (row : Placed) → accepts board row.0 ≡ false → board ≡ after_report board row
unfolding reported
report_refused board row is = ap (λ t. reported t board row) (sym is)

pub report_accepted : (board new : Posted) (row : Placed) → accepts board row.0 ≡ true
    → new ≡ record board { order = board.order ++ row.0 ∷ []; waiting = board.waiting ++ row ∷ [] } → new ≡ after_report board row
unfolding reported
report_accepted board new row is made = made ∙ ap (λ t. reported t board row) (sym is)

-- the board after its first waiting row was taken
pub taken_first : (board new : Posted) (row : Placed) (rest : List Placed) → board.waiting ≡ row ∷ rest
    → new ≡ record board { taken = board.taken + 1; waiting = rest } → new ≡ after_take board
taken_first board new row rest is made =
    let one : board.taken + 1 ≡ board.taken + min 1 (length (row ∷ rest)) = omega arith in
    let after : List Placed → Posted = λ waiting. record board { taken = board.taken + min 1 (length waiting); waiting = drop 1 waiting } in
    made ∙ (ap (λ taken. record board { taken = taken; waiting = rest }) one ∙ ap after (sym is))

-- ---- the first reports

module _ (board : Posted) (row : Placed) where
  kept_places : (t : Bool) → (reported t board row).places ≡ board.places
  unfolding reported
  kept_places true = refl
  kept_places false = refl

  kept_taken : (t : Bool) → (reported t board row).taken ≡ board.taken
  unfolding reported
  kept_taken true = refl
  kept_taken false = refl

  order_grows : (t : Bool) (rows : List Placed) → board.order ≡ places_of rows → (reported t board row).order ≡ places_of (cond t (rows ++ row ∷ []) rows)
  unfolding reported
  order_grows true rows is = ap (λ order. order ++ row.0 ∷ []) is ∙ sym (map-append (λ r. r.0) rows (row ∷ []))
  order_grows false rows is = is

  waiting_grows : (t : Bool) (given rows : List Placed) → given ++ board.waiting ≡ rows → given ++ (reported t board row).waiting ≡ cond t (rows ++ row ∷ []) rows
  unfolding reported
  waiting_grows true given rows is = sym (append_assoc given board.waiting (row ∷ [])) ∙ ap (λ all. all ++ row ∷ []) is
  waiting_grows false given rows is = is

  rest_grows : (t : Bool) (rows : List Placed) → board.taken ≤ length rows → board.waiting ≡ drop board.taken rows → (reported t board row).waiting ≡ drop board.taken (cond t (rows ++ row ∷ []) rows)
  unfolding reported
  rest_grows true rows few is = ap (λ all. all ++ row ∷ []) is ∙ sym (drop-append-le board.taken rows (row ∷ []) few)
  rest_grows false rows few is = is

-- the board accepts a report exactly if it is a first one
module _ (board : Posted) (row : Placed) (reports : List Placed) (order : board.order ≡ places_of (first_arrivals board.places reports)) where
  grown : first_arrivals board.places (reports ++ row ∷ [])
      ≡ cond (accepts board row.0) (first_arrivals board.places reports ++ row ∷ []) (first_arrivals board.places reports)
  grown =
      let F = first_arrivals board.places reports in
      let same : has_come row.0 F ≡ list_any (eqb row.0) board.order = sym (ap (list_any (eqb row.0)) order ∙ has_place row.0 F) in
      first_more board.places reports row ∙ ap (λ h. cond (nat_lt row.0 board.places && not h) (F ++ row ∷ []) F) same

-- ---- agreement, call by call

pub agrees_reported : (board new : Posted) (row : Placed) → board.taken ≤ length board.order → new ≡ after_report board row
    → (reports : List Placed) → Agrees board reports → Agrees new (reports ++ row ∷ [])
unfolding reported
agrees_reported board new row few made reports agrees =
    let t = accepts board row.0 in
    let F = first_arrivals board.places reports in
    let few' : board.taken ≤ length F = let same = ap length agrees.order ∙ length-map F (λ r. r.0) in omega arith in
    let places : new.places ≡ board.places = ap (λ b. b.places) made ∙ kept_places board row t in
    let taken : new.taken ≡ board.taken = ap (λ b. b.taken) made ∙ kept_taken board row t in
    let all : first_arrivals new.places (reports ++ row ∷ []) ≡ cond t (F ++ row ∷ []) F = ap (λ n. first_arrivals n (reports ++ row ∷ [])) places ∙ grown board row reports agrees.order in
    record {
      order = ap (λ b. b.order) made ∙ (order_grows board row t F agrees.order ∙ ap places_of (sym all));
      waiting = ap (λ b. b.waiting) made ∙ (rest_grows board row t F few' agrees.waiting ∙ (ap (λ k. drop k (cond t (F ++ row ∷ []) F)) (sym taken) ∙ ap (drop new.taken) (sym all)));
    }

first_of : {X : Type 0} (k : ℕ) (xs : List X) → slice_get xs k ≡ slice_get (drop k xs) 0
first_of zero [] = refl
first_of (suc k) [] = refl
first_of zero (x ∷ xs) = refl
first_of (suc k) (x ∷ xs) = first_of k xs

rest_taken : (waiting : List Placed) (k : ℕ) (rows : List Placed) → waiting ≡ drop k rows → drop 1 waiting ≡ drop (k + min 1 (length waiting)) rows
rest_taken [] k rows is = let same : k ≡ k + min 1 0 = omega arith in is ∙ ap (λ n. drop n rows) same
rest_taken (row ∷ waiting) k rows is = let one : k + 1 ≡ k + min 1 (length (row ∷ waiting)) = omega arith in ap (drop 1) is ∙ (drop-drop 1 k rows ∙ ap (λ n. drop n rows) one)

-- the row that a take gives is that of the reports at the old number of taken ones
pub row_taken : (board : Posted) (row : Option Placed) → row ≡ slice_get board.waiting 0
    → (reports : List Placed) → Agrees board reports → row ≡ slice_get (first_arrivals board.places reports) board.taken
row_taken board row is reports agrees =
    is ∙ (ap (λ rows. slice_get rows 0) agrees.waiting ∙ sym (first_of board.taken (first_arrivals board.places reports)))

pub agrees_taken : (board new : Posted) → new ≡ after_take board → (reports : List Placed) → Agrees board reports → Agrees new reports
agrees_taken board new made reports agrees =
    let F = first_arrivals board.places reports in
    let places : new.places ≡ board.places = ap (λ b. b.places) made in
    let all : first_arrivals new.places reports ≡ F = ap (λ n. first_arrivals n reports) places in
    record {
      order = ap (λ b. b.order) made ∙ (agrees.order ∙ ap places_of (sym all));
      waiting = ap (λ b. b.waiting) made ∙ (rest_taken board.waiting board.taken F agrees.waiting ∙ (ap (λ k. drop k F) (sym (ap (λ b. b.taken) made)) ∙ ap (drop new.taken) (sym all)));
    }

-- ---- any calls

-- the rows that were given before, and then those that these calls give and leave
gives_all : (calls : List Call) (board : Posted) (given reports : List Placed)
    → board.order ≡ places_of (first_arrivals board.places reports) → given ++ board.waiting ≡ first_arrivals board.places reports
    → given ++ (given_by_all board calls ++ (after_all board calls).waiting) ≡ first_arrivals board.places (reports ++ reports_of calls)
unfolding reported
gives_all [] board given reports order rows = rows ∙ ap (first_arrivals board.places) (sym (append-nil reports))
gives_all (report row ∷ calls) board given reports order rows =
    let t = accepts board row.0 in
    let F = first_arrivals board.places reports in
    let new = reported t board row in
    let places : new.places ≡ board.places = kept_places board row t in
    let grows : first_arrivals new.places (reports ++ row ∷ []) ≡ cond t (F ++ row ∷ []) F = ap (λ n. first_arrivals n (reports ++ row ∷ [])) places ∙ grown board row reports order in
    gives_all calls new given (reports ++ row ∷ []) (order_grows board row t F order ∙ ap places_of (sym grows)) (waiting_grows board row t given F rows ∙ sym grows)
    ∙ (ap (λ n. first_arrivals n ((reports ++ row ∷ []) ++ reports_of calls)) places ∙ ap (first_arrivals board.places) (append_assoc reports (row ∷ []) (reports_of calls)))
gives_all (take_one ∷ calls) board given reports order rows =
    let one = take 1 board.waiting in
    let more = given_by_all (after_take board) calls in
    let left = (after_all (after_take board) calls).waiting in
    ap (λ all. given ++ all) (append_assoc one more left)
    ∙ (sym (append_assoc given one (more ++ left))
    ∙ gives_all calls (after_take board) (given ++ one) reports order (append_assoc given one (drop 1 board.waiting) ∙ (ap (λ all. given ++ all) (take-append-drop 1 board.waiting) ∙ rows)))
gives_all (close_one ∷ calls) board given reports order rows = gives_all calls (after_close board) given reports order rows

pub all_calls : HandsOnFirstReports
all_calls = λ places workers calls. gives_all calls (empty_board places workers) [] [] refl refl

flag_low : (flags : List Bool) (p : ℕ) → slice_index_or flags p false ≡ true → p < length flags
flag_low [] p is = absurd (cc)
flag_low (flag ∷ flags) zero is = omega arith
flag_low (flag ∷ flags) (suc p) is = let rest = flag_low flags p is in omega arith

-- each place in the order is one of the board's
pub order_low : (board : Inside) → IsBoard board → (p : ℕ) → list_any (eqb p) board.rows.order ≡ true → p < length board.reported.items
order_low board is p h = flag_low board.reported.items p (sym (is.known p) ∙ h)

-- what the flag of a place shows about the order
pub flag_known : (board : Inside) → IsBoard board → (p : ℕ) (now b : Bool) → p < length board.reported.items → now ≡ slice_index_or board.reported.items p now → now ≡ b → list_any (eqb p) board.rows.order ≡ b
flag_known board is p now b low at said = is.known p ∙ (get_or_default board.reported.items p false now low ∙ (sym at ∙ said))

-- a row more
pub waiting_more : (order : List ℕ) (taken : ℕ) (waiting : List Placed) (row : Placed) → taken ≤ length order → places_of waiting ≡ drop taken order
    → places_of (waiting ++ row ∷ []) ≡ drop taken (order ++ row.0 ∷ [])
waiting_more order taken waiting row few is = map-append (λ r. r.0) waiting (row ∷ []) ∙ (ap (λ all. all ++ row.0 ∷ []) is ∙ sym (drop-append-le taken order (row.0 ∷ []) few))

-- a row less
pub waiting_less : (order : List ℕ) (taken : ℕ) (all waiting : List Placed) (row : Placed) → all ≡ row ∷ waiting → places_of all ≡ drop taken order → places_of waiting ≡ drop (taken + 1) order
waiting_less order taken all waiting row first is = ap (drop 1) (sym (ap places_of first) ∙ is) ∙ drop-drop 1 taken order

-- as a row waited, not all were taken
pub some_left : (order : List ℕ) (taken : ℕ) (all waiting : List Placed) (row : Placed) → all ≡ row ∷ waiting → places_of all ≡ drop taken order → taken < length order
some_left [] zero all waiting row first is = absurd (let none = sym (ap places_of first) ∙ is in cc)
some_left [] (suc taken) all waiting row first is = absurd (let none = sym (ap places_of first) ∙ is in cc)
some_left (p ∷ order) zero all waiting row first is = omega arith
some_left (p ∷ order) (suc taken) all waiting row first is = let rest = some_left order taken all waiting row first is in omega arith

-- the board after a report that it accepts
pub board_more : (board : Inside) → IsBoard board → (row : Placed) (rows : Returned) → row.0 < length board.reported.items → list_any (eqb row.0) board.rows.order ≡ false
    → rows.items ≡ board.rows.items ++ row ∷ [] → rows.order ≡ board.rows.order ++ row.0 ∷ [] → rows.taken ≡ board.rows.taken → board.rows.room ≡ rows.room + 1
    → IsBoard (record board { rows = rows; reported = with_item board.reported row.0 true })
board_more board is row rows low free items order taken room =
    let flags = board.reported.items in
    let len = length-append board.rows.order (row.0 ∷ []) in
    record {
      known = rw order (flags_more board.rows.order row.0 (λ p. slice_index_or flags p false) (λ p. slice_index_or (slice_set flags row.0 true) p false) is.known
          (get_or-set_at flags row.0 row.0 true false refl low) (λ p other. get_or-set_other flags row.0 p true false other));
      distinct = rw order (distinct_more board.rows.order row.0 is.distinct free);
      taken = let few = is.taken in rw order (omega (arith, len, few, taken));
      waiting = rw (items, order, taken) (waiting_more board.rows.order board.rows.taken board.rows.items row is.taken is.waiting);
      room = let fits = is.room in rw order (omega (arith, len, fits, room, length-set flags row.0 true));
      closed = is.closed;
    }

-- there is room for it
pub board_fits : (board : Inside) → IsBoard board → (p : ℕ) → p < length board.reported.items → list_any (eqb p) board.rows.order ≡ false → 1 ≤ board.rows.room
board_fits board is p low free =
    let few = room_left board.rows.order p (length board.reported.items) (order_low board is) low is.distinct free in
    omega (arith, few, is.room)

pub board_reported : (board : Inside) (row : Placed) (rows : Returned) → row.0 < length board.reported.items → list_any (eqb row.0) board.rows.order ≡ false
    → rows.items ≡ board.rows.items ++ row ∷ [] → rows.order ≡ board.rows.order ++ row.0 ∷ [] → rows.taken ≡ board.rows.taken
    → posted (record board { rows = rows; reported = with_item board.reported row.0 true }) ≡ after_report (posted board) row
board_reported board row rows low free items order taken =
    report_accepted (posted board) _ row (accepted_free (posted board) row.0 low free) (rw (items, order, taken, length-set board.reported.items row.0 true) refl)

-- the rows after the first of them was taken, if there was one
module _ (board : Inside) (rows : Returned) where
  module _ (same : rows.order ≡ board.rows.order) (room : rows.room ≡ board.rows.room) where
    pub board_less : IsBoard board → (taken : Option Placed) → IfNone taken ((board.rows.items ≡ []) × (rows ≡ board.rows)) → IfSome taken (λ row. board.rows.items ≡ row ∷ rows.items)
        → IfSome taken (λ _. rows.taken ≡ board.rows.taken + 1) → IsBoard (record board { rows = rows })
    board_less is None none some more = let P : Returned → Type 0 = λ r. IsBoard (record board { rows = r }) in subst P (sym none.1) is
    board_less is (Some row) none some more = record {
      known = rw same is.known;
      distinct = rw same is.distinct;
      taken = let left = some_left board.rows.order board.rows.taken board.rows.items rows.items row some is.waiting in rw (same, more) (omega (arith, left));
      waiting = rw (same, more) (waiting_less board.rows.order board.rows.taken board.rows.items rows.items row some is.waiting);
      room = rw (same, room) is.room;
      closed = is.closed;
    }

pub history_shown : (board : Inside) → IsBoard board → HasHistory (posted board)
history_shown board is = record {
  distinct = is.distinct;
  below = All-from_any nat_eq_equiv (λ p. p < length board.reported.items) board.rows.order (order_low board is);
  taken = is.taken;
  waiting = is.waiting;
  closed = is.closed;
}

-- ---- what is shown when the first row is taken

nothing_taken : (board : Posted) → board.waiting ≡ [] → board ≡ after_take board
nothing_taken board none =
    let after : List Placed → Posted = λ waiting. record board { taken = board.taken + min 1 (length waiting); waiting = drop 1 waiting } in
    let same : record board { waiting = [] } ≡ after [] = ap (λ n. record board { taken = n; waiting = [] }) (let add : board.taken ≡ board.taken + 0 = omega arith in add) in
    ap (λ waiting. record board { waiting = waiting }) none ∙ (same ∙ ap after (sym none))

pub board_taken : (board : Inside) (rows : Returned) → rows.order ≡ board.rows.order → (taken : Option Placed) → IfNone taken ((board.rows.items ≡ []) × (rows ≡ board.rows))
    → IfSome taken (λ row. board.rows.items ≡ row ∷ rows.items) → IfSome taken (λ _. rows.taken ≡ board.rows.taken + 1)
    → (posted (record board { rows = rows }) ≡ after_take (posted board)) × (taken ≡ slice_get board.rows.items 0)
board_taken board rows same None none some more =
    (ap (λ r. posted (record board { rows = r })) none.1 ∙ nothing_taken (posted board) none.0, sym (ap (λ items. slice_get items 0) none.0))
board_taken board rows same (Some row) none some more = (
  taken_first (posted board) _ row rows.items some (ap₂ (λ order n. record (posted board) { order = order; taken = n; waiting = rows.items }) same more),
  sym (ap (λ items. slice_get items 0) some),
)
