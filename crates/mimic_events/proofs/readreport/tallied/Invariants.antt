-- What was taken from the input was fed.
use Rattle.std.proofs.Common.{ℕ, List}
use Rattle.std.specs.Io.KnownBytes.{Consumes}
use Rattle.mimic_events.specs.Tally.{HasRead}
use Rattle.mimic_events.proofs.readreport.tallied.Given as goal

abbrev pub invariant-loop : goal.invariant-loop
invariant-loop g l = (all : List ℕ) × HasRead l.tally all × Consumes (g.I.Read.remaining l.fn.input) (g.I.Read.remaining l.input) all
