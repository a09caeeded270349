use Rattle.std.proofs.Common.{take}
use Rattle.std.specs.List.{flat_map}
use Rattle.mimic_printer.specs.Sink.{Adds}
use Rattle.mimic_printer.proofs.Listing.{listed_line}
use Rattle.mimic_trial.specs.Trial.{info_of}
use Rattle.mimic_printer.proofs.Printer.add_list.Given as goal

abbrev pub invariant-loop-trial : goal.invariant-loop-trial
invariant-loop-trial g l = Adds g.W.Write.contents l.initial.sink l.sink (flat_map (λ t. listed_line l.ignored (info_of t)) (take l.trial-index l.tests))
