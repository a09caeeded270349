use Rattle.std.proofs.Common.{◌≡◌, map, take}
use Rattle.mimic_events.specs.Key.{key_read}
use Rattle.mimic_expect.specs.Expect.{keyed}
use Rattle.mimic_expect.specs.JudgementText.{lines_left}
use Rattle.mimic_expect.specs.Known.{expected_read}
use Rattle.mimic_expect.proofs.judgement.keyed_expectations.Given as goal

abbrev pub invariant-loop-expectation : goal.invariant-loop-expectation
invariant-loop-expectation g l = lines_left (map (λ x. (key_read x.0, x.1)) l.items.items) ≡ keyed (map expected_read (take l.expectation-index l.known))
