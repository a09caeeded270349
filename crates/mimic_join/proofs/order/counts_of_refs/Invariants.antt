use Rattle.std.proofs.Common.{◌≡◌, map, take}
use Rattle.mimic_trial.specs.Count.{counts_of}
use Rattle.mimic_join.proofs.order.counts_of_refs.Given as goal

abbrev pub invariant-loop-row : goal.invariant-loop-row
invariant-loop-row l = l.counts ≡ counts_of (map (λ row. row.now.outcome) (take l.row-index l.rows)) l.filtered_out
