-- The files so far, each with its numbers.
use Rattle.std.specs.Prelude.{◌≡◌, ◌++◌, map}
use Rattle.std.specs.Vec.Iter.{into_iter_items}
use Rattle.reports.proofs.by_name.with_numbers.Given as goal

abbrev pub invariant-loop-file : goal.invariant-loop-file
invariant-loop-file l = record {
  seen : l.yielded ++ into_iter_items l.file-iterator ≡ l.fn.files.items;
  made : map (λ it. it.file) l.named.items ≡ l.yielded;
}
