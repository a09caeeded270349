use Rattle.std.proofs.Common.{◌≡◌, ◌+◌, length}
use Rattle.mimic_events.specs.Readers.{PassesRows}
use Rattle.mimic_events.proofs.tally.Tally.feed.Given as goal

abbrev pub invariant-loop-tally : goal.invariant-loop-tally
invariant-loop-tally l = record { fed : PassesRows l.fn.self.reader l.fn.piece l.tally.reader l.left; taken : l.tally.taken ≡ l.fn.self.taken + length l.fn.piece }

abbrev pub decreases-loop-tally : goal.decreases-loop-tally
decreases-loop-tally l = length l.left
