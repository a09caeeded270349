-- The rows so far are the printed rows so far.
use Rattle.std.specs.Prelude.{◌≡◌, ◌++◌, map}
use Rattle.std.specs.Vec.Iter.{into_iter_items}
use Rattle.mimic_reports.specs.Show.{kept_rows, printed_row}
use Rattle.mimic_reports.proofs.show.rows_to_print.Given as goal

abbrev pub invariant-loop-row : goal.invariant-loop-row
invariant-loop-row l = record {
  seen : l.yielded ++ into_iter_items l.row-iterator ≡ l.fn.rows.items;
  made : kept_rows l.printed.items ≡ map printed_row l.yielded;
}
