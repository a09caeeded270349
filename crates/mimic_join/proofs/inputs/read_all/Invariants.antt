-- The inputs so far are the reports so far.
use Rattle.std.specs.Prelude.{◌≡◌, ◌+◌, ◌++◌, length, map, vec_len}
use Rattle.std.specs.Vec.Iter.{into_iter_items, into_iter_len}
use Rattle.mimic_join.specs.Inputs.{AreReportsIn}
use Rattle.mimic_join.proofs.inputs.read_all.Given as goal

abbrev pub invariant-loop-input : goal.invariant-loop-input
invariant-loop-input g l = record {
  seen : l.yielded ++ into_iter_items l.input-iterator ≡ l.fn.inputs.items;
  place : l.place ≡ length l.yielded;
  left : l.place + into_iter_len l.input-iterator ≡ vec_len l.fn.inputs;
  read : AreReportsIn (map g.I.Read.remaining l.yielded) l.reports.items;
}
