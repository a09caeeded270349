use Rattle.mimic_join.proofs.CutReports.{cut_lines, nothing}
use Rattle.mimic_printer.proofs.Adding.{adds_last, adds_nothing, adds_then}
use Rattle.mimic_join.proofs.cut.add_cut.Goals as goal

pub returns-in_default : goal.returns-in_default
returns-in_default g c = rw (nothing c.args.reads.now c.in_default.ensures) (adds_nothing c.args.sink.now)

pub returns : goal.returns
returns g c =
    let same = cut_lines c.args.reads.now c.as_slice.result.now c.in-Some.announced c.in-Some.ensures (rw c.as_slice.ensures.value c.in_ok-rows.ensures) in
    rw same at (adds_last _ (adds_then _ _ c.add_title.ensures c.add_rows.ensures) c.add_flush.ensures)
