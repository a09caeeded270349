use Rattle.std.proofs.Common.{◌≡◌, ◌+◌, ◌^◌, ◌<◌, ◌≤◌, ◌++◌, take}
use Rattle.mimic_trial.specs.Seconds.{fraction_digits}
use Rattle.mimic_trial.proofs.text.write_fraction.Given as goal

abbrev pub invariant-loop-left : goal.invariant-loop-left
invariant-loop-left l = record {
  few : l.places ≤ 9;
  end : l.at + l.places ≡ l.start + 9;
  below : l.left < 10 ^ l.places;
  written : take l.at l.buf ++ fraction_digits l.places l.left ≡ take l.start l.initial.buf ++ fraction_digits 9 l.rest;
}

abbrev pub decreases-loop-left : goal.decreases-loop-left
decreases-loop-left l = l.places
