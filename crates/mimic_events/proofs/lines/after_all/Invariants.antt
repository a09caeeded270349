use Rattle.std.proofs.Common.{List, ℕ, Option, Bor, drop}
use Rattle.mimic_events.specs.LineParts.{Follows}
use Rattle.mimic_events.proofs.Fronts.{all_of}
use Rattle.mimic_events.proofs.lines.after_all.Given as goal

-- what follows the fronts that are left is what follows all of them
abbrev pub invariant-loop-front : goal.invariant-loop-front
invariant-loop-front l = (o : Option (Bor (List ℕ))) → Follows (all_of (drop l.front-index l.fronts)) l.rest o → Follows (all_of l.fronts) l.text o
