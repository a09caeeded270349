use Rattle.std.proofs.Common.{◌≡◌, take, false}
use Rattle.std.specs.List.{list_any}
use Rattle.mimic_trial.specs.Count.{is_failed}
use Rattle.mimic_printer.specs.Row.{outcomes_of}
use Rattle.mimic_printer.proofs.failures.any_failed.Given as goal

abbrev pub invariant-loop-number : goal.invariant-loop-number
invariant-loop-number g l = list_any is_failed (outcomes_of (take l.number (g.R.ShownRows.rows_of l.rows))) ≡ false
