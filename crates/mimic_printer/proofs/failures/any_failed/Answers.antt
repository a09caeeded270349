use Rattle.std.proofs.Common.{◌≡◌, ap, arith, sym, true}
use Rattle.std.proofs.lemmas.Grind.{common_steps}
use Rattle.std.proofs.lemmas.Option.{get_or_from_slice_get}
use Rattle.mimic_trial.specs.Count.{is_failed}
use Rattle.mimic_printer.specs.Row.{row_of}
use Rattle.mimic_printer.proofs.FailedRows.{any-failed_row}
use Rattle.mimic_printer.proofs.failures.any_failed.Goals as goal
use Rattle.mimic_printer.proofs.failures.any_failed.Goals.{in-Failed, in_default}

pub returns-then-matches : goal.returns-then-matches
returns-then-matches g c =
    let row = row_of c.row.result.0.now c.row.result.1.now in
    let failed : is_failed c.row.result.1.now ≡ true = elim c.match-matches.branch [ in-Failed w ↦ ap is_failed w.in-Failed.is | in_default w ↦ cc ] in
    sym (any-failed_row (g.R.ShownRows.rows_of c.args.rows.now) c.loop-number.number row c.row.ensures failed)

pub loop-number-preserved : goal.loop-number-preserved
loop-number-preserved g c =
    let row = row_of c.row.result.0.now c.row.result.1.now in
    let at = sym (get_or_from_slice_get (g.R.ShownRows.rows_of c.args.rows.now) c.loop-number.number row row c.row.ensures) in
    grind (arith, common_steps, at)
