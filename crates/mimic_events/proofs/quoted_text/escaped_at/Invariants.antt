use Rattle.std.proofs.Common.{length}
use Rattle.mimic_events.proofs.QuotedTexts.{Reaches}
use Rattle.mimic_events.proofs.quoted_text.escaped_at.Given as goal

abbrev pub invariant-loop-byte : goal.invariant-loop-byte
invariant-loop-byte l = Reaches l.bytes l.text.items l.rest

abbrev pub decreases-loop-byte : goal.decreases-loop-byte
decreases-loop-byte l = length l.rest
