use Rattle.std.proofs.Common.{List, ℕ, Option, Bor, length}
use Rattle.mimic_trial.specs.Escape.{escaped}
use Rattle.mimic_events.specs.LineParts.{Follows}
use Rattle.mimic_events.proofs.quoted_text.after_escaped.Given as goal

-- what follows the rest of the text is what follows the whole
abbrev pub invariant-loop-left : goal.invariant-loop-left
invariant-loop-left l = (o : Option (Bor (List ℕ))) → Follows (escaped l.left) l.rest o → Follows (escaped l.fn.text) l.fn.line o

abbrev pub decreases-loop-left : goal.decreases-loop-left
decreases-loop-left l = length l.left
