use Rattle.std.proofs.Common.{Some, None, string_bytes}
use Rattle.mimic_events.proofs.NamedLines.{announced_kind, announced_none, announced_some}
use Rattle.mimic_events.proofs.lines.announced.Goals as goal

pub returns-in_default : goal.returns-in_default
returns-in_default c = announced_none c.args.line.now (rw c.in_default.is at c.in_ok-name.ensures)

pub returns-in_default-2 : goal.returns-in_default-2
returns-in_default-2 c = λ v h.
    let name = rw c.in-Some.is at c.in_ok-name.ensures in
    let kind = rw c.in_default-2.is at c.in_ok-kind.ensures in
    kind v.kind (announced_kind c.args.line.now c.in-Some.name.items c.in-Some.rest.now v name h).1

pub returns-in-Some-text_of : goal.returns-in-Some-text_of
returns-in-Some-text_of c =
    let name = rw c.in-Some.is at c.in_ok-name.ensures in
    let kind = rw c.in-Some-2.is at c.in_ok-kind.ensures in
    announced_some c.args.line.now c.in-Some.name.items c.in-Some.rest.now (string_bytes c.in-Some-2.kind) (Some (string_bytes c.in-Some-text_of.name)) name kind (rw c.in-Some-text_of.is at c.text_of.ensures)

pub returns-in-None : goal.returns-in-None
returns-in-None c =
    let name = rw c.in-Some.is at c.in_ok-name.ensures in
    let kind = rw c.in-Some-2.is at c.in_ok-kind.ensures in
    announced_some c.args.line.now c.in-Some.name.items c.in-Some.rest.now (string_bytes c.in-Some-2.kind) None name kind (rw c.in-None.is at c.text_of.ensures)
