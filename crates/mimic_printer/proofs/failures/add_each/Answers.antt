use Rattle.std.proofs.Common.{◌<◌, ◌∙◌, arith, length, subst, sym}
use Rattle.std.proofs.lemmas.Option.{get_or_from_slice_get}
use Rattle.mimic_printer.specs.Row.{row_of}
use Rattle.mimic_printer.specs.Failures.{row_part}
use Rattle.mimic_printer.specs.Sink.{Adds}
use Rattle.mimic_printer.proofs.Adding.{adds_next, adds_rest}
use Rattle.mimic_printer.proofs.failures.add_each.Goals as goal

pub loop-number-preserved : goal.loop-number-preserved
loop-number-preserved g c =
    let rows = g.R.ShownRows.rows_of c.args.rows.now in
    let row = row_of c.row.result.0.now c.row.result.1.now in
    let within : c.loop-number.number < length rows = omega arith in
    adds_next (row_part c.args.part) rows _ row within c.loop-number.invariant
    (subst (λ r. Adds g.W.Write.contents c.loop-number.sink c.add_part.new.sink (row_part c.args.part r)) (sym (get_or_from_slice_get rows _ row row c.row.ensures)) c.add_part.ensures)

pub returns-then-has_fault : goal.returns-then-has_fault
returns-then-has_fault g c =
    adds_rest (row_part c.args.part) (g.R.ShownRows.rows_of c.args.rows.now) c.loop-number.number (sym c.has_fault.ensures ∙ c.if-has_fault.true) c.loop-number.invariant
