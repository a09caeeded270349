use Rattle.std.proofs.Common.{◌≡◌, ◌≢◌, [], rules, string_bytes, ◌∙◌}
use Rattle.std.proofs.lemmas.List.{nil_from_length}
use Rattle.mimic_printer.specs.Json.{json_end}
use Rattle.mimic_events.proofs.NamedLines.{kind_some, kind_spelled, mapped}
use Rattle.mimic_events.proofs.lines.kind_of.Goals as goal

pub returns-in_default : goal.returns-in_default
returns-in_default c = λ v h.
    let more : c.args.rest.now ≢ json_end = search rules in
    let read = rw c.in_default.is at c.in_ok-kind.ensures in
    read v (kind_spelled c.args.rest.now v more h).1

pub returns-then-is_empty : goal.returns-then-is_empty
returns-then-is_empty c = λ v h.
    let more : c.args.rest.now ≢ json_end = search rules in
    let read = rw c.in-Some.is at c.in_ok-kind.ensures in
    let none : c.in-Some.kind.items ≡ [] = nil_from_length c.in-Some.kind.items (search rules) in
    let kind = kind_spelled c.args.rest.now v more h in
    kind.0 (read.1 v kind.1 ∙ none)

pub returns : goal.returns
returns c =
    let more : c.args.rest.now ≢ json_end = search rules in
    let some : c.in-Some.kind.items ≢ [] = λ e. absurd (search rules) in
    kind_some c.args.rest.now c.in-Some.kind.items _ more some (rw c.in-Some.is at c.in_ok-kind.ensures)
    (mapped c.text_of.result string_bytes c.in-Some.kind.items c.text_of.ensures)
