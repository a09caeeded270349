use Rattle.std.proofs.Common.{sym}
use Rattle.mimic_printer.proofs.FailedRows.{length-rows_at}
use Rattle.mimic_printer.proofs.failures.PlacedShownRows.len.Goals as goal

pub returns : goal.returns
returns c =
    let rows = c.args.self.now in
    sym (length-rows_at rows.infos.now rows.order.now rows.outcomes.now c.requires.0 c.requires.1)
