use Rattle.std.proofs.Common.{◌≢◌, [], rules, string_bytes}
use Rattle.mimic_events.proofs.NamedLines.{kind_then, label_stop, label_then}
use Rattle.mimic_events.proofs.lines.after_label.Goals as goal

pub returns-in_err-rest : goal.returns-in_err-rest
returns-in_err-rest c =
    let name = c.as_str.ensures.value in
    rw c.from_residual.ensures (label_stop c.args.front.now (string_bytes c.args.label.now.name) (string_bytes c.args.label.now.kind) c.args.line.now (rw name at c.in_err-rest.ensures))

pub returns : goal.returns
returns c =
    let name = c.as_str.ensures.value in
    let kind = c.as_str-2.ensures.value in
    let some : string_bytes c.args.label.now.kind ≢ [] = λ e. absurd (search rules) in
    label_then c.args.front.now (string_bytes c.args.label.now.name) (string_bytes c.args.label.now.kind) c.args.line.now c.in_ok-rest.rest.now _ (rw name at c.in_ok-rest.ensures)
    (kind_then (string_bytes c.args.label.now.kind) c.in_ok-rest.rest.now _ some (rw kind at c.after_quoted-2.ensures))
