use Rattle.std.proofs.Common.{◌≡◌, ◌∙◌, ◌<◌, [], ℕ, Bool, List, ap, arith, false, length, map, refl, subst, sym}
use Rattle.std.specs.Prelude.{All, is_ok}
use Rattle.std.proofs.lemmas.List.{length-append, length-map}
use Rattle.libtest_mimic.specs.Prelude.{AreArrived, AreRowsOf, assigned_from, Gathered, GatheringRefused, is_timed, places_of, put_each, PutsArrived, rows_in, Runs, runs_all, shown}
use Rattle.libtest_mimic.proofs.Arranged.{length_assigned, order_below}
use Rattle.libtest_mimic.proofs.Gathering.{WritesRows, arrival_refused, completed_gathered, differs_refused, nothing_arrived, on_error, or_true, outcomes_count, put_all, rows_ended, stopped_missing}
use Rattle.libtest_mimic.proofs.Returned.{all_gathered}
use Rattle.libtest_mimic.proofs.running.gathering.gather_rows.Given.{Over}
use Rattle.libtest_mimic.proofs.running.gathering.gather_rows.Goals.{After-end-written, In_ok-written}
use Rattle.libtest_mimic.proofs.running.gathering.gather_rows.Goals as goal

-- there is a place for each info
places : (g : Over) (c : After-end-written g) → c.add_arrivals.new.desk.places ≡ length c.args.infos.now
places g c = c.add_arrivals.ensures.places ∙ ap (λ d. d.places) c.requires.ready.desk

-- the rows that arrived were written, or a beginning of them
arrived : (g : Over) (c : After-end-written g)
    → WritesRows c.args.printer.now (AreArrived (is_timed c.args.started.inbox) c.args.infos.now c.add_arrivals.new.desk) (shown g.W.Write.contents c.args.sink.now) (shown g.W.Write.contents c.end-written.new.self) c.end-written.result
arrived g c =
    rows_ended c.args.printer.now _ _
    (c.add_arrivals.ensures.arrived c.args.sink.now (nothing_arrived (is_timed c.args.started.inbox) c.args.printer.now c.args.infos.now _ _ c.requires.ready.desk c.args.sink.now))
    c.end-written.ensures

-- if no write failed, they were written
all_arrived : (g : Over) (c : In_ok-written g)
    → PutsArrived (is_timed c.args.started.inbox) c.args.printer.now c.args.infos.now c.add_arrivals.new.desk (shown g.W.Write.contents c.args.sink.now) (shown g.W.Write.contents c.end-written.new.self)
all_arrived g c =
    let ended = rows_ended c.args.printer.now (AreArrived (is_timed c.args.started.inbox) c.args.infos.now c.add_arrivals.new.desk) c.end-written.result
    (c.add_arrivals.ensures.arrived c.args.sink.now (nothing_arrived (is_timed c.args.started.inbox) c.args.printer.now c.args.infos.now _ _ c.requires.ready.desk c.args.sink.now))
    c.end-written.ensures in
    rw c.in_ok-written.was at ended

-- then each trial has an outcome
gathered : (g : Over) (c : In_ok-written g) (mode : Bool) (rs : List _) (bs : List Bool) → length rs ≡ length c.args.infos.now → length bs ≡ length c.args.infos.now
    → Runs g.R.Task.gives c.args.started.workers mode (assigned_from 0 rs bs)
    → Gathered g.R.Task.gives mode (assigned_from 0 rs bs) (places_of c.complete.new.desk.rows) (put_each (map rows_in c.join_workers-joined.result.items) c.in_ok-complete.ensures.completed.outcomes)
gathered g c mode rs bs runners flags runs =
    let same = runners ∙ sym flags in
    let here = c.add_arrivals.ensures.places ∙ ap (λ d. d.places) c.requires.ready.desk ∙ sym runners in
    let done = c.in_ok-complete.ensures.completed in
    let whole = or_true (runs_all c.args.started.workers) c.is_ok-whole.result (c.is_ok-whole.ensures.value ∙ ap is_ok c.in_ok-written.was) in
    let count = outcomes_count g.R.Task.gives mode rs bs same _ _ _ _ done here in
    completed_gathered g.R.Task.gives mode rs bs same _ _ _ _ done (c.join_workers-joined.ensures.outcomes mode rs bs runs whole done.outcomes count) here

pub returns-in_err-complete-clause-rows : goal.returns-in_err-complete-clause-rows
returns-in_err-complete-clause-rows g c = λ rs bs mode runners flags runs.
    let arrivals = (goal.at.returns-in_err-complete-clause-rows g c).After-end-written in
    on_error c.from_residual.result _ _
    (GatheringRefused g.R.Task.gives mode (assigned_from 0 rs bs) (runs_all c.args.started.workers) (AreRowsOf (is_timed c.args.started.inbox) c.args.infos.now) c.args.printer.now (shown g.W.Write.contents c.args.sink.now) (shown g.W.Write.contents c.end-written.new.self))
    c.from_residual.ensures.1
    (differs_refused g.R.Task.gives mode rs bs (runs_all c.args.started.workers) c.is_ok-whole.result (is_timed c.args.started.inbox) c.end-written.result c.args.printer.now c.args.infos.now _ _ _ _ (places g arrivals ∙ sym runners ∙ sym (length_assigned 0 rs bs (runners ∙ sym flags)))
    c.is_ok-whole.ensures.value c.order-arrived.ensures.whole (arrived g arrivals) (c.join_workers-joined.ensures.joined mode _ runs) _ c.in_err-complete.ensures.completed)

pub returns-in_err-written-clause-rows : goal.returns-in_err-written-clause-rows
returns-in_err-written-clause-rows g c = λ rs bs mode runners flags runs.
    let arrivals = (goal.at.returns-in_err-written-clause-rows g c).After-end-written in
    let before = shown g.W.Write.contents c.args.sink.now in
    let after = shown g.W.Write.contents c.end-written.new.self in
    let asked = is_timed c.args.started.inbox in
    let stopped = subst (λ r. WritesRows c.args.printer.now (AreArrived asked c.args.infos.now c.add_arrivals.new.desk) before after r) c.in_err-written.was (arrived g arrivals) in
    let part : c.is_ok-whole.result ≡ false = c.is_ok-whole.ensures.value ∙ ap is_ok c.in_err-written.was in
    on_error c.from_residual-in_err-written.result _ _
    (GatheringRefused g.R.Task.gives mode (assigned_from 0 rs bs) (runs_all c.args.started.workers) (AreRowsOf asked c.args.infos.now) c.args.printer.now before after)
    c.from_residual-in_err-written.ensures.1
    (arrival_refused g.R.Task.gives mode rs bs (runners ∙ sym flags) asked c.args.printer.now c.args.infos.now (runs_all c.args.started.workers) c.is_ok-whole.result _ _ _ c.in_ok-complete.ensures.completed part
    (c.join_workers-joined.ensures.joined mode _ runs) (places g arrivals ∙ sym runners) before _ stopped)

pub end-written-requires : goal.end-written-requires
end-written-requires g c =
    let added = c.add_arrivals.ensures.arrived c.args.sink.now (nothing_arrived (is_timed c.args.started.inbox) c.args.printer.now c.args.infos.now _ _ c.requires.ready.desk c.args.sink.now) in
    omega (arith, added.2.faults, c.requires.room)

pub end-requires : goal.end-requires
end-requires g c =
    let put = all_arrived g (goal.at.end-requires g c).In_ok-written in
    omega (arith, c.add_missing.ensures.2.faults, put.2.faults, c.requires.room)

pub add_missing-requires-clause-places : goal.add_missing-requires-clause-places
add_missing-requires-clause-places g c =
    let here = places g (goal.at.add_missing-requires-clause-places g c).After-end-written in
    subst (λ (n : ℕ). All (λ place. place < n) (places_of c.complete.new.desk.rows)) here (order_below _ _ c.in_ok-complete.ensures.completed.all)

pub add_missing-requires-clause-first : goal.add_missing-requires-clause-first
add_missing-requires-clause-first g c =
    let old = c.add_arrivals.new.desk.rows in
    let done = c.in_ok-complete.ensures.completed in
    omega (arith, ap length c.order-arrived.ensures.places, length-map old (λ r. r.0), ap length done.rows, length-append old done.missing)

pub returns-in_err-end-clause-rows : goal.returns-in_err-end-clause-rows
returns-in_err-end-clause-rows g c = λ rs bs mode runners flags runs.
    let whole = (goal.at.returns-in_err-end-clause-rows g c).In_ok-written in
    let done = c.in_ok-complete.ensures.completed in
    let count = ap length c.order-arrived.ensures.places ∙ length-map c.add_arrivals.new.desk.rows (λ r. r.0) in
    let asked = is_timed c.args.started.inbox in
    let missing = rows_ended c.args.printer.now _ _ (rw c.add_arrivals.ensures.timed at c.add_missing.ensures) c.in_err-end.ensures in
    let stopped = stopped_missing asked c.args.printer.now c.args.infos.now _ _ _ _ done _ _ _ (all_arrived g whole) _ count missing in
    on_error c.from_residual-in_err-end.result _ _
    (GatheringRefused g.R.Task.gives mode (assigned_from 0 rs bs) (runs_all c.args.started.workers) (AreRowsOf asked c.args.infos.now) c.args.printer.now (shown g.W.Write.contents c.args.sink.now) (shown g.W.Write.contents c.end.new.self))
    c.from_residual-in_err-end.ensures.1 (
      c.complete.new.desk.rows,
      [],
      stopped.0,
      all_gathered g.R.Task.gives mode (assigned_from 0 rs bs) c.complete.new.desk.rows _ done.returned (gathered g whole mode rs bs runners flags runs),
      (λ _. refl),
      stopped.1,
      stopped.2,
    )

pub returns-clause-rows : goal.returns-clause-rows
returns-clause-rows g c = λ rs bs mode runners flags runs.
    let whole = (goal.at.returns-clause-rows g c).In_ok-written in
    let done = c.in_ok-complete.ensures.completed in
    let count = ap length c.order-arrived.ensures.places ∙ length-map c.add_arrivals.new.desk.rows (λ r. r.0) in
    let missing = rows_ended c.args.printer.now _ _ (rw c.add_arrivals.ensures.timed at c.add_missing.ensures) c.in_ok-end.ensures in (
      record {
        outcomes = put_each (map rows_in c.join_workers-joined.result.items) done.outcomes;
        gathered = gathered g whole mode rs bs runners flags runs;
        rows = done.returned;
      },
      put_all (is_timed c.args.started.inbox) c.args.printer.now c.args.infos.now _ _ _ _ done _ _ _ (all_arrived g whole) _ count missing,
    )
