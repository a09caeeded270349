use Rattle.std.specs.Prelude.{List, ◌++◌, map, take}
use Rattle.mimic_printer.specs.Row.{Label}
use Rattle.mimic_events.specs.Key.{HasTrials, label_in}
use Rattle.mimic_join.proofs.join.add_names.Given as goal

abbrev pub invariant-loop-row : goal.invariant-loop-row
invariant-loop-row g l = (labels : List Label) → HasTrials l.fn.seen labels → HasTrials l.seen (labels ++ map label_in (take l.row-index l.rows))
