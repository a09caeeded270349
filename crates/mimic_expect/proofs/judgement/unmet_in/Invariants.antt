use Rattle.std.proofs.Common.{◌≡◌, take}
use Rattle.mimic_expect.specs.Expect.{left_by, unmet_by}
use Rattle.mimic_expect.specs.JudgementText.{entries_read, lines_left}
use Rattle.mimic_expect.proofs.judgement.unmet_in.Given as goal

abbrev pub invariant-loop-row : goal.invariant-loop-row
invariant-loop-row g l = record {
  unmet : entries_read l.unmet.items ≡ unmet_by (lines_left l.fn.items) (entries_read (take l.row-index l.failed));
  left : lines_left l.items ≡ left_by (lines_left l.fn.items) (entries_read (take l.row-index l.failed));
}
