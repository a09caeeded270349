use Rattle.std.proofs.Common.{◌<◌, ℕ}
use Rattle.mimic_pool.specs.Arrivals.{AgreesAt}
use Rattle.mimic_pool.proofs.desk.Desk.settle.Given as goal

abbrev pub invariant-loop-place : goal.invariant-loop-place
invariant-loop-place l = (p : ℕ) → p < l.place → AgreesAt l.self.rows l.joined p
