use Rattle.std.proofs.Common.{map, take}
use Rattle.mimic_args.specs.CommandLine.{AddsLocal, named_flag}
use Rattle.mimic_args.proofs.options.add_flags.Given as goal

abbrev pub invariant-loop-name : goal.invariant-loop-name
invariant-loop-name l = AddsLocal l.fn.args.items (map named_flag (take l.name-index l.named)) l.args.items
