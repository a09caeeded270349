use Rattle.std.proofs.Common.{◌≡◌}
use Rattle.libtest_mimic.specs.Prelude.{AddsRows, AreArrived, is_timed, Sink}
use Rattle.libtest_mimic.proofs.running.arrivals.add_arrivals.Given as goal

abbrev pub invariant-loop : goal.invariant-loop
invariant-loop g l = record {
  places : l.desk.places ≡ l.initial.desk.places;
  timed : is_timed l.inbox ≡ is_timed l.initial.inbox;
  arrived : (base : Sink _) → AddsRows g.W.Write.contents l.printer (AreArrived (is_timed l.initial.inbox) l.infos l.initial.desk) base l.initial.sink
      → AddsRows g.W.Write.contents l.printer (AreArrived (is_timed l.initial.inbox) l.infos l.desk) base l.sink;
}
