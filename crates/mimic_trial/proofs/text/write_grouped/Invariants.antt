use Rattle.std.proofs.Common.{◌≡◌, ◌+◌, ◌≤◌, ◌++◌, length, take, drop}
use Rattle.mimic_trial.specs.Text.{grouped}
use Rattle.mimic_trial.proofs.text.write_grouped.Given as goal

abbrev pub invariant-loop-i : goal.invariant-loop-i
invariant-loop-i l = record {
  written : take l.at l.buf ++ grouped (drop l.i l.digits) ≡ grouped l.digits;
  room : l.at + length (grouped (drop l.i l.digits)) ≤ 26;
}
