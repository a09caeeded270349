use Rattle.std.proofs.Common.{[], refl}
use Rattle.mimic_printer.proofs.Adding.{adds_last, adds_nothing, adds_then}
use Rattle.mimic_reports.proofs.Showing.{text-parts}
use Rattle.mimic_reports.proofs.show.add_report.Goals as goal

pub returns : goal.returns
returns g c =
    rw (text-parts c.args.printer.now c.args.rows.now _ c.args.counts.now c.args.nanos refl c.requires)
    (adds_last _ (adds_then _ _ c.add_title.ensures (adds_then _ _ c.add_rows_and_failures.ensures (adds_then _ [] c.add_summary.ensures (adds_nothing _)))) c.add_flush.ensures)
