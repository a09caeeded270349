use Rattle.std.proofs.Common.{take}
use Rattle.std.specs.List.{flat_map}
use Rattle.mimic_printer.specs.Sink.{Adds}
use Rattle.mimic_expect.specs.FindingText.{finding_text}
use Rattle.mimic_expect.specs.JudgementText.{finding_read}
use Rattle.mimic_expect.proofs.inputs.add_unexpected.Given as goal

abbrev pub invariant-loop-found : goal.invariant-loop-found
invariant-loop-found g l = Adds g.W.Write.contents l.initial.sink l.sink
    (flat_map (λ found. finding_text l.lines (finding_read found)) (take l.found-index l.unexpected))
