use Rattle.std.proofs.Common.{All, take}
use Rattle.mimic_pool.specs.Prelude.{HaveArrived, rows_in}
use Rattle.mimic_pool.proofs.desk.Desk.has_all.Given as goal

abbrev pub invariant-loop-rows : goal.invariant-loop-rows
invariant-loop-rows l = All (λ rows. HaveArrived l.self (rows_in rows)) (take l.rows-index l.joined)
