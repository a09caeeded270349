use Rattle.std.proofs.Common.{◌<◌, ℕ}
use Rattle.libtest_mimic.specs.Prelude.{full_name, StandsAt}
use Rattle.libtest_mimic.proofs.select.begins_in_kind_part.Given as goal

abbrev pub invariant-loop-start : goal.invariant-loop-start
invariant-loop-start l = (k : ℕ) → k < l.start → ¬ StandsAt l.pattern (full_name l.kind l.name) k
