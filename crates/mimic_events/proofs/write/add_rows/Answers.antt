use Rattle.std.proofs.Common.{◌∙◌, sym}
use Rattle.std.proofs.lemmas.List.{take_all}
use Rattle.std.proofs.lemmas.List.Elements.{All-more}
use Rattle.mimic_printer.proofs.Adding.{adds_next, adds_rest}
use Rattle.mimic_events.specs.Written.{FitsRow, row_lines}
use Rattle.mimic_events.proofs.write.add_rows.Goals as goal

pub returns-then-has_fault : goal.returns-then-has_fault
returns-then-has_fault g c =
    let stopped = sym c.has_fault.ensures ∙ c.if-has_fault.true in
    record {
      written = adds_rest row_lines c.args.rows.now c.loop-row.row-index stopped c.loop-row.invariant.written;
      fits = λ e. absurd cc;
    }

pub loop-row-preserved : goal.loop-row-preserved
loop-row-preserved g c = record {
  written = adds_next row_lines c.args.rows.now c.loop-row.row-index c.row-item.result c.loop-row-test.true c.loop-row.invariant.written (rw c.row-item.is at c.add_row.ensures.written);
  fits = All-more FitsRow c.args.rows.now c.loop-row.row-index c.row-item.result c.loop-row-test.true c.loop-row.invariant.fits (rw c.row-item.is at c.add_row.ensures.fits);
}

pub returns-after-loop-row-clause-fits : goal.returns-after-loop-row-clause-fits
returns-after-loop-row-clause-fits g c = λ e. rw (take_all c.loop-row.row-index c.args.rows.now c.loop-row-test.false) at c.loop-row.invariant.fits
