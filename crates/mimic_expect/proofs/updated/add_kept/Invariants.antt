-- What becomes of the lines before the rest was added.
use Rattle.std.proofs.Common.{◌+◌, ◌≤◌, length}
use Rattle.mimic_printer.proofs.Escaping.{AddedSoFar}
use Rattle.mimic_expect.specs.Changes.{read_at}
use Rattle.mimic_expect.specs.Known.{lines_of}
use Rattle.mimic_expect.specs.Updated.{kept_lines}
use Rattle.mimic_expect.proofs.updated.add_kept.Given as goal

abbrev pub invariant-loop-line : goal.invariant-loop-line
invariant-loop-line g l = record {
  added : AddedSoFar g.W.Write.contents l.initial.sink l.sink (kept_lines (read_at l.changes) 1 (lines_of l.text))
      (kept_lines (read_at l.changes) l.number (lines_of l.rest));
  small : l.number + length l.rest ≤ length l.text + 1;
}

abbrev pub decreases-loop-line : goal.decreases-loop-line
decreases-loop-line g l = length l.rest
