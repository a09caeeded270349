use Rattle.std.proofs.Common.{◌≡◌, ◌++◌, map, take}
use Rattle.std.specs.List.{flat_map}
use Rattle.mimic_expect.specs.Expect.{answers, fate, unanswered}
use Rattle.mimic_expect.specs.JudgementText.{expected_at, finding_read, rows_left}
use Rattle.mimic_expect.proofs.judgement.add_findings.Given as goal

abbrev pub invariant-loop-expectation : goal.invariant-loop-expectation
invariant-loop-expectation g l = record {
  found : map finding_read l.unexpected.items ≡ map finding_read l.fn.unexpected.items
      ++ flat_map (fate l.are_all) (answers (rows_left l.fn.others) (expected_at (take l.expectation-index l.left)));
  left : rows_left l.others ≡ unanswered (rows_left l.fn.others) (expected_at (take l.expectation-index l.left));
}
