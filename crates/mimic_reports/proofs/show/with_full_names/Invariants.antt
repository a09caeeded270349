-- The rows so far are named so far.
use Rattle.std.specs.Prelude.{◌≡◌, ◌++◌, map}
use Rattle.std.specs.Vec.Iter.{into_iter_items}
use Rattle.mimic_reports.specs.Show.{full_failure, kept_rows}
use Rattle.mimic_reports.proofs.show.with_full_names.Given as goal

abbrev pub invariant-loop-row : goal.invariant-loop-row
invariant-loop-row l = record {
  seen : l.yielded ++ into_iter_items l.row-iterator ≡ l.fn.rows.items;
  made : kept_rows l.named.items ≡ map full_failure (kept_rows l.yielded);
}
