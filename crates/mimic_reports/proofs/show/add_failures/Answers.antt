use Rattle.mimic_printer.proofs.Adding.{adds_last, adds_then}
use Rattle.mimic_reports.proofs.Showing.{part-untimed}
use Rattle.mimic_reports.proofs.show.add_failures.Goals as goal

pub returns : goal.returns
returns g c =
    let failures = rw c.new.ensures.format at c.add_failures.ensures in
    rw (part-untimed c.args.rows.now c.args.ending.now) (adds_last _ (adds_then _ _ failures c.add_ending.ensures) c.add_flush.ensures)
