use Rattle.std.proofs.Common.{◌≤◌, length}
use Rattle.mimic_printer.proofs.Escaping.{AddedSoFar}
use Rattle.mimic_reports.specs.RowIds.{id_part}
use Rattle.mimic_reports.proofs.row_id.add_part.Given as goal

abbrev pub invariant-loop-at : goal.invariant-loop-at
invariant-loop-at g l = record {
  within : length l.rest ≤ length l.text;
  so_far : AddedSoFar g.W.Write.contents l.initial.sink l.sink (id_part l.text) (id_part l.rest);
}

abbrev pub decreases-loop-at : goal.decreases-loop-at
decreases-loop-at g l = length l.rest
