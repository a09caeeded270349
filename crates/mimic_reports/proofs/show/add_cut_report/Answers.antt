use Rattle.std.proofs.Common.{[]}
use Rattle.mimic_printer.proofs.Adding.{adds_last, adds_nothing, adds_then}
use Rattle.mimic_reports.proofs.Showing.{cut-parts}
use Rattle.mimic_reports.proofs.show.add_cut_report.Goals as goal

pub returns : goal.returns
returns g c =
    rw (cut-parts c.args.printer.now c.args.rows.now c.args.stop.now)
    (adds_last _ (adds_then _ _ c.add_title_if_any.ensures (adds_then _ _ c.add_rows_and_failures.ensures (adds_then _ [] c.add_cut_line.ensures (adds_nothing _)))) c.add_flush.ensures)
