use Rattle.std.proofs.Common.{◌≡◌, map, take}
use Rattle.mimic_reports.specs.Page.{greatest_time}
use Rattle.mimic_reports.proofs.page.greatest_time.Given as goal

abbrev pub invariant-loop-row : goal.invariant-loop-row
invariant-loop-row l = l.greatest ≡ greatest_time (map (λ row. row.outcome) (take l.row-index l.rows))
