use Rattle.mimic_printer.proofs.Adding.{adds_next}
use Rattle.mimic_expect.specs.FindingText.{running_text}
use Rattle.mimic_expect.proofs.inputs.add_running.Goals as goal

pub loop-ending-preserved : goal.loop-ending-preserved
loop-ending-preserved g c =
    adds_next (running_text c.args.lines) c.args.ends.now c.loop-ending.ending-index c.ending-item.result c.loop-ending-test.true c.loop-ending.invariant (rw c.ending-item.is at c.add_running_line.ensures)
