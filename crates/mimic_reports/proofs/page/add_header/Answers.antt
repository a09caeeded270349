use Rattle.std.proofs.Common.{[]}
use Rattle.mimic_printer.proofs.Adding.{adds_nothing, adds_then}
use Rattle.mimic_reports.proofs.Pages.{header_is}
use Rattle.mimic_reports.proofs.page.add_header.Goals as goal

pub returns : goal.returns
returns g c =
    rw (← header_is c.args.page.now _ _ c.counts_of_rows-counts.ensures c.missing.ensures)
    (adds_then _ _ c.add_start.ensures (adds_then _ _ c.add_notes.ensures (adds_then _ _ c.add_ending.ensures (adds_then _ _ c.add_times.ensures
    (adds_then _ _ c.add_counts.ensures (adds_then _ [] c.add_links.ensures (adds_nothing _)))))))
