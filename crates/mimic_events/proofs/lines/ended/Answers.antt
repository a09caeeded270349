use Rattle.mimic_events.specs.Contents.{label_read}
use Rattle.mimic_events.proofs.EndedLines.{ended_some, ended_none}
use Rattle.std.proofs.Common.{true, false}
use Rattle.mimic_events.proofs.lines.ended.Goals as goal

pub returns-in-Some : goal.returns-in-Some
returns-in-Some c = ended_some true c.args.line.now (label_read c.args.label.now) c.in-Some.rest.now c.measured.result c.in-Some.ensures c.measured.ensures

pub returns-in_ok-end-in-Some-after_label : goal.returns-in_ok-end-in-Some-after_label
returns-in_ok-end-in-Some-after_label c = ended_some false c.args.line.now (label_read c.args.label.now) c.in-Some-after_label.rest.now _ c.in-Some-after_label.ensures c.in_ok-end-in-Some-after_label.ensures

pub returns-in-None : goal.returns-in-None
returns-in-None c = λ v h. ended_none c.args.line.now (label_read c.args.label.now) v c.in_default.ensures c.in-None.ensures h
