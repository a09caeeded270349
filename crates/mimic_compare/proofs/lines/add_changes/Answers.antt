use Rattle.std.proofs.Common.{◌∙◌, sym}
use Rattle.mimic_printer.proofs.Adding.{adds_next, adds_rest}
use Rattle.mimic_compare.specs.Text.{change_text}
use Rattle.mimic_compare.proofs.lines.add_changes.Goals as goal

pub loop-change-preserved : goal.loop-change-preserved
loop-change-preserved g c =
    adds_next change_text c.args.changes.now c.loop-change.change-index c.change-item.result c.loop-change-test.true c.loop-change.invariant (rw (← c.change-item.is) c.add_change.ensures)

pub returns-then-has_fault : goal.returns-then-has_fault
returns-then-has_fault g c =
    adds_rest change_text c.args.changes.now c.loop-change.change-index (sym c.has_fault.ensures ∙ c.if-has_fault.true) c.loop-change.invariant
