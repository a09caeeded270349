use Rattle.std.proofs.Common.{◌∙◌, sym}
use Rattle.mimic_printer.proofs.Adding.{adds_next, adds_rest}
use Rattle.mimic_expect.specs.JudgementText.{finding_read}
use Rattle.mimic_expect.specs.Updated.{added_line}
use Rattle.mimic_expect.proofs.updated.add_unknown.Goals as goal

pub loop-one-preserved : goal.loop-one-preserved
loop-one-preserved g c =
    adds_next (λ one. added_line (finding_read one)) c.args.found.now c.loop-one.one-index c.one-item.result c.loop-one-test.true c.loop-one.invariant
    (rw c.one-item.is at c.add_if_unknown.ensures)

pub returns-then-has_fault : goal.returns-then-has_fault
returns-then-has_fault g c =
    adds_rest (λ one. added_line (finding_read one)) c.args.found.now c.loop-one.one-index (sym c.has_fault.ensures ∙ c.if-has_fault.true) c.loop-one.invariant
