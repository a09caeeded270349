use Rattle.std.proofs.Common.{◌≤◌, take, length, ◌-◌}
use Rattle.mimic_trial.specs.Escape.{ArePlain}
use Rattle.mimic_events.proofs.quoted_text.plain_at.Given as goal

abbrev pub invariant-loop-len : goal.invariant-loop-len
invariant-loop-len l = (l.len ≤ length l.text) × ArePlain (take l.len l.text)

abbrev pub decreases-loop-len : goal.decreases-loop-len
decreases-loop-len l = length l.text - l.len
