-- Nothing was read yet.
use Rattle.std.proofs.Common.{◌≡◌, length}
use Rattle.std.specs.Io.KnownBytes.{Keeps}
use Rattle.mimic_events.proofs.input.read_piece.Given as goal

abbrev pub invariant-loop : goal.invariant-loop
invariant-loop g l = record {
  kept : Keeps (g.I.Read.remaining l.fn.input) (g.I.Read.remaining l.input);
  size : length l.room ≡ length l.fn.room;
}
