-- The lines so far were added.
use Rattle.std.proofs.Common.{ℕ, Bor, List, map}
use Rattle.std.specs.List.{flat_map}
use Rattle.mimic_printer.specs.Sink.{Adds}
use Rattle.mimic_watch.specs.Rows.{line_text}
use Rattle.mimic_watch.proofs.row.add_lines.Given as goal

abbrev pub invariant-loop-line : goal.invariant-loop-line
invariant-loop-line g l = Adds g.W.Write.contents l.initial.sink l.sink
    (flat_map line_text (map (λ (line : Bor (List ℕ)). line.now) l.yielded))
