use Rattle.mimic_reports.proofs.Showing.{printer-same}
use Rattle.mimic_reports.proofs.show.printer_for.Goals as goal

pub returns : goal.returns
returns c = printer-same c.args.colours c.args.rows.now c.columns_for-name_width.result.0 c.columns_for-name_width.result.1 c.columns_for-name_width.ensures.names c.columns_for-name_width.ensures.kinds
