use Rattle.std.proofs.Common.{[]}
use Rattle.mimic_printer.proofs.Adding.{adds_nothing, adds_then}
use Rattle.mimic_events.specs.Contents.{entry_read}
use Rattle.mimic_reports.specs.Page.{label_part, row_end, row_start, row_text, time_part}
use Rattle.mimic_reports.proofs.page_row.add_row.Goals as goal

pub returns : goal.returns
unfolding row_text
returns g c =
    let e = entry_read c.args.row.now in
    let label = rw (c.as_str.ensures.value, c.as_str-2.ensures.value) at c.add_label.ensures in
    adds_then (row_start e) _ c.add_row_start.ensures
    (adds_then (label_part e.label.kind e.label.name) _ label
    (adds_then (time_part e.nanos) _ c.add_time.ensures (adds_then (row_end c.args.longest e.outcome) [] c.add_row_end.ensures (adds_nothing _))))
