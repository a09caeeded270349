use Rattle.std.proofs.Common.{take}
use Rattle.mimic_events.specs.Key.{HasTrials}
use Rattle.mimic_expect.specs.JudgedRows.{labels_known}
use Rattle.mimic_expect.proofs.judge.labels_in.Given as goal

abbrev pub invariant-loop-expectation : goal.invariant-loop-expectation
invariant-loop-expectation g l = HasTrials l.labels (labels_known (take l.expectation-index l.known))
