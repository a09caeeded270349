use Rattle.std.proofs.Common.{map, take}
use Rattle.mimic_expect.specs.Changes.{HasChanges}
use Rattle.mimic_expect.specs.JudgementText.{finding_read}
use Rattle.mimic_expect.proofs.updated.changes_of.Given as goal

abbrev pub invariant-loop-one : goal.invariant-loop-one
invariant-loop-one l = HasChanges l.changes (map finding_read (take l.one-index l.found))
