-- The whole ones so far.
use Rattle.std.specs.Prelude.{◌≡◌, ◌++◌}
use Rattle.std.specs.List.{flat_map}
use Rattle.std.specs.Vec.Iter.{into_iter_items}
use Rattle.mimic_join.specs.Cut.{wholes_in}
use Rattle.mimic_join.proofs.cut.wholes_of.Given as goal

abbrev pub invariant-loop-read : goal.invariant-loop-read
invariant-loop-read l = record {
  seen : l.yielded ++ into_iter_items l.read-iterator ≡ l.fn.reads.items;
  wholes : l.reports.items ≡ flat_map wholes_in l.yielded;
}
