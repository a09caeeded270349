use Rattle.std.proofs.Common.{take}
use Rattle.std.specs.Prelude.{string_bytes, All}
use Rattle.libtest_mimic.specs.Prelude.{MatchesTrial}
use Rattle.libtest_mimic.proofs.select.matches_one.Given as goal

abbrev pub invariant-loop-pattern : goal.invariant-loop-pattern
invariant-loop-pattern g l = All (λ s. ¬ MatchesTrial l.args l.trial (string_bytes s)) (take l.pattern-index l.patterns)
