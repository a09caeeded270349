use Rattle.std.proofs.Common.{◌∙◌, sym}
use Rattle.mimic_reports.proofs.Pages.{all_added, more_rows, none_added, some_added}
use Rattle.mimic_reports.proofs.page.add_group.Goals as goal

pub loop-row-init : goal.loop-row-init
loop-row-init g c = none_added c.args.listing c.args.rows.now _ c.heading.ensures c.add.ensures

pub returns-then-has_fault : goal.returns-then-has_fault
returns-then-has_fault g c = some_added c.args.listing c.args.rows.now _ _ (sym c.has_fault.ensures ∙ c.if-has_fault.true) c.loop-row.invariant

pub loop-row-preserved : goal.loop-row-preserved
loop-row-preserved g c =
    let row = rw c.row-item.is at c.add_row_of-found.ensures.written in
    let count = rw c.row-item.is at c.add_row_of-found.ensures.count in
    more_rows c.args.listing c.args.rows.now c.loop-row.row-index c.loop-row.found c.add_row_of-found.result _ c.loop-row-test.true count c.loop-row.invariant row

pub returns : goal.returns
returns g c = all_added c.args.listing c.args.rows.now _ _ _ c.loop-row-test.false c.saturating_sub.ensures c.loop-row.invariant c.add_unlisted.ensures
