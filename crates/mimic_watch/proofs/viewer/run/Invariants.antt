-- What has come since the input was at its start, and what was put.
use Rattle.std.proofs.Common.{◌<◌, ℕ, List, length}
use Rattle.mimic_printer.specs.Sink.{Put, shown}
use Rattle.mimic_watch.specs.Viewers.{IsWatching}
use Rattle.mimic_watch.proofs.viewer.run.Given as goal

abbrev pub invariant-loop : goal.invariant-loop
invariant-loop g l = record {
  text : List ℕ;
  put : Put (shown g.W.Write.contents l.fn.sink) (shown g.W.Write.contents l.sink) text;
  watching : IsWatching l.fn.viewer.screen (g.I.Read.remaining l.fn.input) (g.I.Read.remaining l.input) text l.viewer;
  room : 0 < length l.room;
}
