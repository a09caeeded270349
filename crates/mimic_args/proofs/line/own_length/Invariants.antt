use Rattle.std.proofs.Common.{ℕ, ◌<◌, get_or}
use Rattle.std.specs.Prelude.{◌≢◌, map}
use Rattle.mimic_args.specs.Line.{separator}
use Rattle.mimic_args.proofs.line.own_length.Given as goal

abbrev pub invariant-loop-own : goal.invariant-loop-own
invariant-loop-own g l = (k : ℕ) → k < l.own → get_or (map g.S.AsStr.text l.words) k separator ≢ separator
