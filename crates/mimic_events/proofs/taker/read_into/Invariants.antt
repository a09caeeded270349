-- The rows that have come were taken.
use Rattle.std.proofs.Common.{List}
use Rattle.mimic_printer.specs.Json.{Entry}
use Rattle.mimic_events.specs.RowByRow.{HasCome, IsReady}
use Rattle.mimic_events.proofs.taker.read_into.Given as goal

abbrev pub invariant-loop : goal.invariant-loop
invariant-loop g l = record {
  ready : IsReady l.rows;
  come : (entries : List Entry) × HasCome g.I.Read.remaining (g.I.Read.remaining l.fn.input) l.rows entries
      × g.T.RowTaker.takes l.initial.taker entries l.taker;
}
