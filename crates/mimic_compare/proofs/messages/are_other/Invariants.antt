use Rattle.std.proofs.Common.{◌≡◌, List, false, take}
use Rattle.std.specs.List.{list_any}
use Rattle.mimic_compare.specs.Classes.{is_other}
use Rattle.mimic_compare.specs.Fates.{Fate}
use Rattle.mimic_compare.specs.Messages.{HasCounts}
use Rattle.mimic_compare.proofs.messages.are_other.Given as goal

abbrev pub invariant-loop-fate : goal.invariant-loop-fate
invariant-loop-fate g l = (before after : List Fate) → HasCounts l.old before → HasCounts l.new after → list_any (is_other before after) (take l.fate-index l.fates) ≡ false
