use Rattle.std.proofs.Common.{take}
use Rattle.std.specs.List.{flat_map}
use Rattle.mimic_printer.specs.Sink.{Adds}
use Rattle.mimic_expect.specs.JudgementText.{finding_read}
use Rattle.mimic_expect.specs.Updated.{added_line}
use Rattle.mimic_expect.proofs.updated.add_unknown.Given as goal

abbrev pub invariant-loop-one : goal.invariant-loop-one
invariant-loop-one g l = Adds g.W.Write.contents l.initial.sink l.sink (flat_map (λ one. added_line (finding_read one)) (take l.one-index l.found))
