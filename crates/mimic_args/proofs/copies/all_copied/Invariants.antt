use Rattle.std.proofs.Common.{◌≡◌, map, take}
use Rattle.std.specs.String.{string_bytes}
use Rattle.mimic_args.proofs.copies.all_copied.Given as goal

abbrev pub invariant-loop-text : goal.invariant-loop-text
invariant-loop-text g l = map string_bytes l.all.items ≡ map g.S.AsStr.text (take l.text-index l.texts)
