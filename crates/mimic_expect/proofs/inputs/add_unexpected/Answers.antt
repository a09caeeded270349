use Rattle.std.proofs.Common.{◌∙◌, sym}
use Rattle.mimic_printer.proofs.Adding.{adds_next, adds_rest}
use Rattle.mimic_expect.specs.FindingText.{finding_text}
use Rattle.mimic_expect.specs.JudgementText.{finding_read}
use Rattle.mimic_expect.proofs.inputs.add_unexpected.Goals as goal

pub loop-found-preserved : goal.loop-found-preserved
loop-found-preserved g c =
    adds_next (λ found. finding_text c.args.lines (finding_read found)) c.args.unexpected.now c.loop-found.found-index c.found-item.result c.loop-found-test.true c.loop-found.invariant
    (rw c.found-item.is at c.add_to.ensures)

pub returns-then-has_fault : goal.returns-then-has_fault
returns-then-has_fault g c =
    adds_rest (λ found. finding_text c.args.lines (finding_read found)) c.args.unexpected.now c.loop-found.found-index (sym c.has_fault.ensures ∙ c.if-has_fault.true) c.loop-found.invariant
