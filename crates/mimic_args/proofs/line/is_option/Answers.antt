use Rattle.std.proofs.Common.{arith}
use Rattle.mimic_args.proofs.line.is_option.Goals as goal

pub returns : goal.returns
returns c = c.starts_with.ensures.byte (omega arith) (omega arith) (λ w o found. found)
