use Rattle.std.proofs.Common.{arith, subst}
use Rattle.mimic_events.specs.Key.{HasTrials}
use Rattle.mimic_join.proofs.SeenNames.{own_more, seen_more, twice}
use Rattle.mimic_join.proofs.join.named_twice.Goals as goal

pub returns-in-Some : goal.returns-in-Some
returns-in-Some g c =
    twice c.args.reports.now c.loop-place.place c.index-reports-place.result c.deref.result.now c.loop-place-test.true c.index-reports-place.is c.deref.ensures.value c.in-Some.row
    (c.in-Some.ensures _ c.loop-place.invariant.seen)

pub loop-place-preserved : goal.loop-place-preserved
loop-place-preserved g c = record {
  seen = subst (HasTrials c.add_names.new.seen)
      (seen_more c.args.reports.now c.loop-place.place c.index-reports-place.result c.deref-in-loop-place.result.now c.loop-place-test.true c.index-reports-place.is c.deref-in-loop-place.ensures.value)
      (c.in_ok-add_names.ensures _ c.loop-place.invariant.seen);
  pairs = own_more c.args.reports.now c.loop-place.place c.index-reports-place.result c.deref.result.now c.loop-place-test.true c.index-reports-place.is c.deref.ensures.value
      (c.in_default.ensures _ c.loop-place.invariant.seen) c.loop-place.invariant.pairs;
}

pub returns : goal.returns
returns g c = λ i j d lt within. c.loop-place.invariant.pairs i j d lt (omega (arith, within, c.loop-place-test.false))
