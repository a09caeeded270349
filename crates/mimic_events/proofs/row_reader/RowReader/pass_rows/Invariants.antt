use Rattle.std.proofs.Common.{◌≡◌, false, [], length}
use Rattle.mimic_events.specs.Readers.{PassesRows}
use Rattle.mimic_events.proofs.row_reader.RowReader.pass_rows.Given as goal

abbrev pub invariant-loop-after : goal.invariant-loop-after
invariant-loop-after l = (l.self.stuck ≡ false) × (l.self.rest.items ≡ []) × PassesRows l.fn.self l.fn.piece l.self l.left

abbrev pub decreases-loop-after : goal.decreases-loop-after
decreases-loop-after l = length l.left
