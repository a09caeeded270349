use Rattle.std.proofs.Common.{◌≡◌, ◌++◌, map, take}
use Rattle.mimic_trial.specs.Count.{is_failed}
use Rattle.mimic_expect.specs.Expect.{FailedRow, rows_with}
use Rattle.mimic_expect.specs.JudgementText.{entries_read, finding_read}
use Rattle.mimic_expect.proofs.judgement.add_failures.Given as goal

abbrev pub invariant-loop-row : goal.invariant-loop-row
invariant-loop-row l = map finding_read l.unexpected.items ≡ map finding_read l.fn.unexpected.items ++ map FailedRow (rows_with is_failed (entries_read (take l.row-index l.rows)))
