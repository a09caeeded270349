use Rattle.std.proofs.Common.{[], length}
use Rattle.mimic_events.specs.Readers.{ReadsFront}
use Rattle.mimic_events.proofs.row_reader.RowReader.next_row.Given as goal

abbrev pub invariant-loop-end : goal.invariant-loop-end
invariant-loop-end l = ReadsFront l.fn.self l.fn.piece l.self [] l.left

abbrev pub decreases-loop-end : goal.decreases-loop-end
decreases-loop-end l = length l.left
