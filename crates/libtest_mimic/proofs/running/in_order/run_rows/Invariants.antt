use Rattle.std.proofs.Common.{◌≡◌, ◌++◌, length, vec_len}
use Rattle.std.specs.Vec.Iter.{into_iter_items}
use Rattle.libtest_mimic.specs.Prelude.{HasRoomFor, selected_suite}
use Rattle.libtest_mimic.proofs.RowsInOrder.{RowsSoFar}
use Rattle.libtest_mimic.proofs.running.in_order.run_rows.Given as goal

abbrev pub invariant-loop-trial : goal.invariant-loop-trial
invariant-loop-trial g l = record {
  seen : l.yielded ++ into_iter_items l.trial-iterator ≡ l.fn.request.selection.trials.items;
  room : HasRoomFor l.tally (vec_len l.fn.request.selection.trials);
  so_far : RowsSoFar g.R.Task.gives g.W.Write.contents
      (selected_suite l.fn.request.selection l.fn.printer)
      (length l.yielded) l.initial.sink l.sink l.tally;
  readings : l.watch ≡ l.initial.watch;
}
