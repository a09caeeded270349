use Rattle.std.proofs.Common.{rules, ap, ◌∙◌}
use Rattle.mimic_events.specs.Outputs.{counts_line}
use Rattle.mimic_events.proofs.Printing.{put_leaves, read_holds, read_none}
use Rattle.mimic_events.proofs.readreport.print_report.Goals as goal

pub returns-in_default : goal.returns-in_default
returns-in_default g c =
    let read = c.in_ok-tally.ensures.read in
    (search rules, read_none _ read.0 read.2 (c.in_default.ensures read.0 read.1))

pub returns : goal.returns
returns g c =
    let read = c.in_ok-tally.ensures.read in
    let spelled = (c.in-Some.ensures read.0 read.1).0 in
    let held = read_holds _ _ _ read.2 spelled.spelled in
    let line = c.as_str.ensures.value ∙ c.in_ok-line.ensures ∙ ap (λ t. counts_line t.rows t.counts t.nanos) spelled.numbers in
    put_leaves _ _ _ spelled.contents _ _ held line c.put_text.ensures
