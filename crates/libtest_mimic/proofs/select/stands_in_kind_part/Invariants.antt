use Rattle.std.proofs.Common.{◌≡◌, ◌+◌, ◌<◌, ℕ, get_or}
use Rattle.libtest_mimic.specs.Prelude.{kind_part}
use Rattle.libtest_mimic.proofs.select.stands_in_kind_part.Given as goal

abbrev pub invariant-loop-i : goal.invariant-loop-i
invariant-loop-i l = (k : ℕ) → k < l.i → get_or (kind_part l.kind) (l.start + k) 0 ≡ get_or l.piece k 0
