use Rattle.std.proofs.Common.{◌≡◌, drop}
use Rattle.mimic_compare.specs.Text.{first_message}
use Rattle.mimic_compare.proofs.lines.first_message.Given as goal

abbrev pub invariant-loop-fate : goal.invariant-loop-fate
invariant-loop-fate l = first_message l.fates ≡ first_message (drop l.fate-index l.fates)
