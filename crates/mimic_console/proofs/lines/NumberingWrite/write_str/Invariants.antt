use Rattle.std.proofs.Common.{◌≡◌}
use Rattle.mimic_console.proofs.lines.NumberingWrite.write_str.Given as goal

abbrev pub invariant-loop-at : goal.invariant-loop-at
invariant-loop-at g l = l.self.0.ghost_name ≡ l.initial.self.0.ghost_name
