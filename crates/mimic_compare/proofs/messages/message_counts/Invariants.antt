use Rattle.std.proofs.Common.{take}
use Rattle.mimic_compare.specs.Messages.{HasCounts}
use Rattle.mimic_compare.proofs.messages.message_counts.Given as goal

abbrev pub invariant-loop-fate : goal.invariant-loop-fate
invariant-loop-fate g l = HasCounts l.counted (take l.fate-index l.fates)
