use Rattle.std.proofs.Common.{◌≡◌, true, sym, ◌∙◌}
use Rattle.mimic_printer.proofs.Adding.{adds_then}
use Rattle.mimic_events.specs.Contents.{entry_read}
use Rattle.mimic_reports.specs.Page.{is_in}
use Rattle.mimic_reports.proofs.Pages.{listed_row}
use Rattle.mimic_reports.proofs.page.add_row_of.Goals as goal

pub returns-clause-written : goal.returns-clause-written
returns-clause-written g c =
    let e = entry_read c.args.row.now in
    let has : is_in c.args.listing.group e.outcome ≡ true = sym c.has.ensures ∙ c.if-not-has.false in
    rw (← listed_row c.args.listing c.args.found e has c.if-found-listing.false) (adds_then _ _ c.add_row.ensures c.add_list_end.ensures)
