use Rattle.std.proofs.Common.{arith, ◌<◌}
use Rattle.std.proofs.lemmas.Bool.Decides.{nat_tests}
use Rattle.mimic_trial.proofs.Escapes.{control_utf8}
use Rattle.mimic_trial.proofs.escape.Escaped.control.Goals as goal

pub invariant_of-result : goal.invariant_of-result
invariant_of-result c =
    let high : c.hex_digit.result < 128 = grind (arith, nat_tests, c.hex_digit.ensures) in
    let low : c.hex_digit-2.result < 128 = grind (arith, nat_tests, c.hex_digit-2.ensures) in
    (omega arith, control_utf8 _ _ high low)
