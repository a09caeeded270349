-- What was read so far is of the inputs so far.
use Rattle.std.specs.Prelude.{◌≡◌, ◌++◌, map}
use Rattle.std.specs.Vec.Iter.{into_iter_items}
use Rattle.mimic_join.specs.Cut.{AreReadOf}
use Rattle.mimic_join.proofs.cut.read_all.Given as goal

abbrev pub invariant-loop-input : goal.invariant-loop-input
invariant-loop-input g l = record {
  seen : l.yielded ++ into_iter_items l.input-iterator ≡ l.fn.inputs.items;
  read : AreReadOf (map g.I.Read.remaining l.yielded) l.reads.items;
}
