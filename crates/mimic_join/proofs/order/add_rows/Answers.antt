use Rattle.std.proofs.Common.{◌∙◌, sym}
use Rattle.mimic_printer.proofs.Adding.{adds_next, adds_rest}
use Rattle.mimic_events.specs.Written.{row_lines}
use Rattle.mimic_events.specs.declared.report.Row.{Row}
use Rattle.mimic_join.proofs.order.add_rows.Goals as goal
use denote.Ref.{Bor}

pub returns-then-has_fault : goal.returns-then-has_fault
returns-then-has_fault g c =
    adds_rest (λ (row : Bor Row). row_lines row.now) c.args.rows.now c.loop-row.row-index (sym c.has_fault.ensures ∙ c.if-has_fault.true) c.loop-row.invariant

pub loop-row-preserved : goal.loop-row-preserved
loop-row-preserved g c =
    adds_next (λ (row : Bor Row). row_lines row.now) c.args.rows.now c.loop-row.row-index c.row-item.result c.loop-row-test.true c.loop-row.invariant
    (rw c.row-item.is at c.add_row.ensures.written)
