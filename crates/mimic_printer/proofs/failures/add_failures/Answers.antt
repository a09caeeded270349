use Rattle.std.proofs.Common.{◌∙◌, [], codes, sym}
use Rattle.mimic_printer.proofs.Adding.{adds_nothing, adds_then}
use Rattle.mimic_printer.proofs.FailedRows.{failures-some, failures-none}
use Rattle.mimic_printer.proofs.failures.add_failures.Goals as goal

pub returns-then-any_failed : goal.returns-then-any_failed
returns-then-any_failed g c =
    rw (failures-some (g.R.ShownRows.rows_of c.args.rows.now) (sym c.any_failed.ensures ∙ c.if-any_failed.true))
    (adds_then (codes "\nfailures:\n\n") _ c.add.ensures
    (adds_then _ _ c.add_each.ensures (adds_then (codes "\nfailures:\n") _ c.add-then-any_failed.ensures (adds_then _ [] c.add_each-then-any_failed.ensures (adds_nothing _)))))

pub returns-else-any_failed : goal.returns-else-any_failed
returns-else-any_failed g c = rw (failures-none (g.R.ShownRows.rows_of c.args.rows.now) (sym c.any_failed.ensures ∙ c.if-any_failed.false)) (adds_nothing _)
