-- The inputs so far were read, and their rows were judged.
use Rattle.std.specs.Prelude.{◌≡◌, ◌≤◌, ◌+◌, ◌-◌, ◌*◌, ◌^◌, ◌++◌, List, length, map, vec_len}
use Rattle.std.specs.List.{AllZip}
use Rattle.std.specs.Vec.Iter.{into_iter_items, into_iter_len}
use Rattle.mimic_printer.specs.Sink.{shown}
use Rattle.mimic_expect.specs.JudgedRows.{Judges}
use Rattle.mimic_events.specs.Readings.{InputRead, IsReadOf}
use Rattle.mimic_expect.specs.Verdict.{rows_of}
use Rattle.mimic_expect.proofs.inputs.judge_inputs.Given as goal

abbrev pub invariant-loop-input : goal.invariant-loop-input
invariant-loop-input g l = record {
  seen : l.yielded ++ into_iter_items l.input-iterator ≡ l.fn.inputs.items;
  left : length l.yielded + into_iter_len l.input-iterator ≡ vec_len l.fn.inputs;
  few : l.failed ≤ length l.yielded * (2 ^ 64 - 1);
  done : (read : List InputRead) × AllZip (λ input r. IsReadOf (g.I.Read.remaining input) r) l.yielded read × (l.ends.items ≡ map (λ r. r.ending) read)
      × Judges l.lines l.initial.judge l.judge (rows_of read) l.failed (shown g.W.Write.contents l.initial.sink) (shown g.W.Write.contents l.sink);
}
