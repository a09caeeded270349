use Rattle.std.proofs.Common.{◌≡◌, map, take}
use Rattle.libtest_mimic.specs.Prelude.{counts_of}
use Rattle.libtest_mimic.proofs.running.in_workers.count_outcomes.Given as goal

abbrev pub invariant-loop-number : goal.invariant-loop-number
invariant-loop-number l = l.conclusion ≡ counts_of (take l.number (map (λ row. row.1) l.desk.rows)) l.filtered_out
