use Rattle.std.proofs.Common.{arith}
use Rattle.mimic_printer.proofs.Adding.{adds_last, adds_then}
use Rattle.mimic_join.proofs.JoinedText.{joined_lines}
use Rattle.mimic_join.proofs.inputs.add_joined.Goals as goal

pub returns : goal.returns
returns g c =
    let fit = rw c.in-Ok.is at c.in_ok-totals.ensures in
    let j = joined_lines c.args.reports.now c.in-Ok.totals c.as_slice-rows.result.now _ (fit.1, fit.2)
    (rw c.as_slice-rows.ensures.value c.in_ok-rows.ensures) c.counts_of_refs-counts.ensures in
    let added =
    adds_last _ (adds_then _ _ c.add_title.ensures (adds_then _ _ c.add_rows.ensures c.add_summary.ensures)) c.add_flush.ensures in
    (fit.0, omega (arith, fit.1), j.0, rw j.1 at added)
