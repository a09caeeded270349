use Rattle.std.proofs.Common.{◌≡◌, map, take}
use Rattle.mimic_reports.specs.Page.{total_time}
use Rattle.mimic_reports.proofs.page_elements.total_time.Given as goal

abbrev pub invariant-loop-row : goal.invariant-loop-row
invariant-loop-row l = l.total ≡ total_time (map (λ row. row.nanos) (take l.row-index l.rows))
