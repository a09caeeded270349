use Rattle.std.proofs.Common.{take}
use Rattle.std.specs.List.{flat_map}
use Rattle.mimic_printer.specs.Sink.{Adds}
use Rattle.mimic_expect.specs.FindingText.{running_text}
use Rattle.mimic_expect.proofs.inputs.add_running.Given as goal

abbrev pub invariant-loop-ending : goal.invariant-loop-ending
invariant-loop-ending g l = Adds g.W.Write.contents l.initial.sink l.sink (flat_map (running_text l.lines) (take l.ending-index l.ends))
