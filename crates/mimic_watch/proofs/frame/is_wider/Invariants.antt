-- The characters so far fit.
use Rattle.std.proofs.Common.{◌≡◌, ◌+◌}
use Rattle.mimic_watch.specs.Frames.{columns_of}
use Rattle.mimic_watch.proofs.frame.is_wider.Given as goal

abbrev pub invariant-loop-c : goal.invariant-loop-c
invariant-loop-c l = l.room + columns_of l.yielded ≡ l.columns
