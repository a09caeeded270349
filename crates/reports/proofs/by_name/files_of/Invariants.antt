-- The files so far.
use Rattle.std.specs.Prelude.{◌≡◌, ◌++◌, map}
use Rattle.std.specs.Vec.Iter.{into_iter_items}
use Rattle.reports.proofs.by_name.files_of.Given as goal

abbrev pub invariant-loop-file : goal.invariant-loop-file
invariant-loop-file l = record {
  seen : l.yielded ++ into_iter_items l.file-iterator ≡ l.fn.named.items;
  made : l.files.items ≡ map (λ it. it.file) l.yielded;
}
