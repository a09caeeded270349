use Rattle.mimic_printer.proofs.Adding.{adds_last, puts_added}
use Rattle.libtest_mimic.specs.declared.running.RunError.TheVariants.{Write}
use Rattle.libtest_mimic.proofs.Gathering.{on_error}
use Rattle.libtest_mimic.proofs.running.write_list.Goals as goal

pub returns-in_err-end : goal.returns-in_err-end
returns-in_err-end g c =
    on_error c.from_residual.result (Write c.in_err-end.field-0.0) _ _ c.from_residual.ensures.1
    (puts_added _ _ (adds_last _ c.add_list.ensures c.add_flush.ensures) c.in_err-end.ensures)
