use Rattle.std.proofs.Common.{◌≡◌, map, take}
use Rattle.mimic_reports.specs.Page.{slowest_time}
use Rattle.mimic_reports.proofs.page_elements.slowest_time.Given as goal

abbrev pub invariant-loop-row : goal.invariant-loop-row
invariant-loop-row l = l.slowest ≡ slowest_time (map (λ row. row.nanos) (take l.row-index l.rows))
