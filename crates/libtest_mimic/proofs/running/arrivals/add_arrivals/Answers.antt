use Rattle.std.proofs.Common.{◌≡◌, ◌∙◌}
use Rattle.libtest_mimic.specs.Prelude.{is_timed}
use Rattle.libtest_mimic.proofs.running.arrivals.add_arrivals.Goals.{in-None, in-Some+in_default, in-Some+in-Some-next+then-has_fault}
use Rattle.libtest_mimic.proofs.running.arrivals.add_arrivals.Goals as goal

pub loop-preserved : goal.loop-preserved
loop-preserved g c =
    let same : is_timed c.next-in-loop.new.self ≡ is_timed c.args.inbox.now = c.next-in-loop.ensures.timed ∙ c.loop.invariant.timed in
    record {
      places = c.add_arrival.ensures.places ∙ c.loop.invariant.places;
      timed = same;
      arrived = λ base before. rw same at (c.add_arrival.ensures.arrived base (rw same (c.loop.invariant.arrived base before)));
    }

pub returns-clause-arrived : goal.returns-clause-arrived
returns-clause-arrived g c base before =
    let so_far = c.loop.invariant.arrived base before in
    elim c.match-next.branch [
      | in-None w ↦ rw (w.desk-is, w.sink-is) so_far
      | in-Some+in_default w ↦ rw (w.desk-is, w.sink-is) so_far
      | in-Some+in-Some-next+then-has_fault w ↦
          let same : is_timed w.next-in-loop.new.self ≡ is_timed c.args.inbox.now = w.next-in-loop.ensures.timed ∙ c.loop.invariant.timed in
          rw (w.desk-is, w.sink-is) (rw same at (w.add_arrival.ensures.arrived base (rw same so_far)))
    ]
