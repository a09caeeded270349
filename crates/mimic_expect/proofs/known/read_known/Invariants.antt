use Rattle.std.proofs.Common.{◌+◌, ◌≤◌, length, map}
use Rattle.mimic_expect.specs.Known.{expected_read}
use Rattle.mimic_expect.proofs.KnownLines.{Reading}
use Rattle.mimic_expect.proofs.known.read_known.Given as goal

abbrev pub invariant-loop-line : goal.invariant-loop-line
invariant-loop-line l = record { read : Reading l.bytes l.rest l.number (map expected_read l.known.items); small : l.number + length l.rest ≤ length l.bytes + 1 }

abbrev pub decreases-loop-line : goal.decreases-loop-line
decreases-loop-line l = length l.rest
