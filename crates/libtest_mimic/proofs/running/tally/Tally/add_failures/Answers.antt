use Rattle.std.proofs.Common.{◌∙◌, ap, List, ℕ, subst}
use Rattle.libtest_mimic.specs.Prelude.{Adds, failures_text, rows_from}
use Rattle.mimic_printer.proofs.FailedRows.{failures_text-failed}
use Rattle.libtest_mimic.proofs.running.tally.Tally.add_failures.Goals as goal

pub returns : goal.returns
returns g c filtered_out rows h =
    let kept = ap rows_from c.deref.ensures.value ∙ h.failed in
    let P : List ℕ → Type 0 = λ l. Adds g.W.Write.contents c.args.sink.now c.add_failures_of.new.sink l in
    subst P (ap (failures_text c.args.printer.now) kept ∙ failures_text-failed c.args.printer.now rows) c.add_failures_of.ensures
