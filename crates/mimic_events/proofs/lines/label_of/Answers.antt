use Rattle.std.proofs.Common.{string_bytes}
use Rattle.mimic_events.proofs.FailedLines.{failed_none, failed_some, no_kind_text, no_name}
use Rattle.mimic_events.proofs.lines.label_of.Goals as goal

pub returns-in_default : goal.returns-in_default
returns-in_default c = failed_none c.args.line.now (rw c.in_default.is at c.in_ok-name.ensures)

pub returns-in_default-text_of : goal.returns-in_default-text_of
returns-in_default-text_of c =
    let name = rw c.in-Some.is at c.in_ok-name.ensures in
    no_name c.args.line.now c.in-Some.name.items c.in-Some.rest.now name c.in_default-text_of.ensures

pub returns-in-Some-text_of-2 : goal.returns-in-Some-text_of-2
returns-in-Some-text_of-2 c =
    let name = rw c.in-Some.is at c.in_ok-name.ensures in
    failed_some c.args.line.now c.in-Some.name.items c.in-Some.rest.now c.in_ok-kind.kind.items (string_bytes c.in-Some-text_of.name) (string_bytes c.in-Some-text_of-2.kind) name c.in_ok-kind.ensures c.in-Some-text_of.ensures c.in-Some-text_of-2.ensures

pub returns-in-None : goal.returns-in-None
returns-in-None c =
    let name = rw c.in-Some.is at c.in_ok-name.ensures in
    no_kind_text c.args.line.now c.in-Some.name.items c.in-Some.rest.now c.in_ok-kind.kind.items name c.in_ok-kind.ensures c.in-None.ensures
