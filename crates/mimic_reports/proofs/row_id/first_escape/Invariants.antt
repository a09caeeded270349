use Rattle.std.proofs.Common.{take}
use Rattle.mimic_reports.specs.RowIds.{StayAll}
use Rattle.mimic_reports.proofs.row_id.first_escape.Given as goal

abbrev pub invariant-loop-at : goal.invariant-loop-at
invariant-loop-at l = StayAll (take l.at l.text)
