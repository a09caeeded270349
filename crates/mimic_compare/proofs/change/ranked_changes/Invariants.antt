use Rattle.std.proofs.Common.{◌≡◌, take}
use Rattle.mimic_compare.specs.Changes.{changes_in}
use Rattle.mimic_compare.proofs.change.ranked_changes.Given as goal

abbrev pub invariant-loop-comparison : goal.invariant-loop-comparison
invariant-loop-comparison l = l.changes.items ≡ changes_in l.factor (take l.comparison-index l.found)
