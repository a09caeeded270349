use Rattle.std.proofs.Common.{arith}
use Rattle.mimic_printer.proofs.Adding.{adds_spaces}
use Rattle.mimic_printer.proofs.Appending.{take-blanks}
use Rattle.mimic_printer.proofs.piece.add_spaces.Goals as goal

pub loop-left-preserved : goal.loop-left-preserved
loop-left-preserved g c =
    let blanks = take-blanks c.min-now.result (omega (arith, c.min-now.ensures)) in
    record {
      within = omega arith;
      text = adds_spaces _ _ _ (omega (arith, c.min-now.ensures)) c.loop-left.invariant.text (rw blanks at c.add.ensures);
    }
