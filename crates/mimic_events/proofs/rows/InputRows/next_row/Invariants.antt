-- What had come is all that has come.
use Rattle.std.proofs.Common.{List, Option, ℕ}
use Rattle.mimic_printer.specs.Json.{Entry}
use Rattle.mimic_events.specs.RowByRow.{HasCome, IsReady}
use Rattle.mimic_events.proofs.rows.InputRows.next_row.Given as goal

abbrev pub invariant-loop : goal.invariant-loop
invariant-loop g l = record {
  ready : IsReady l.self;
  come : (start : Option (List ℕ)) (entries : List Entry) → HasCome g.I.Read.remaining start l.fn.self entries → HasCome g.I.Read.remaining start l.self entries;
}
