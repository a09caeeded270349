-- The inputs so far were read, and of their rows those were kept that matter.
use Rattle.std.specs.Prelude.{◌≡◌, ◌+◌, ◌++◌, List, length, map, vec_len}
use Rattle.std.specs.List.{AllZip}
use Rattle.std.specs.Vec.Iter.{into_iter_items, into_iter_len}
use Rattle.mimic_expect.specs.JudgedRows.{Keeps}
use Rattle.mimic_events.specs.Readings.{InputRead, IsReadOf}
use Rattle.mimic_expect.specs.Verdict.{rows_of}
use Rattle.mimic_expect.proofs.updated.keep_inputs.Given as goal

abbrev pub invariant-loop-input : goal.invariant-loop-input
invariant-loop-input g l = record {
  seen : l.yielded ++ into_iter_items l.input-iterator ≡ l.fn.inputs.items;
  left : length l.yielded + into_iter_len l.input-iterator ≡ vec_len l.fn.inputs;
  done : (read : List InputRead) × AllZip (λ input r. IsReadOf (g.I.Read.remaining input) r) l.yielded read × (l.ends.items ≡ map (λ r. r.ending) read)
      × Keeps l.initial.judge l.judge (rows_of read);
}
