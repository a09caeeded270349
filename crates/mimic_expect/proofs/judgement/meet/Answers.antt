use Rattle.std.proofs.Common.{◌∙◌, sym}
use Rattle.mimic_events.specs.Contents.{entry_read}
use Rattle.mimic_expect.specs.Known.{expected_read}
use Rattle.mimic_expect.proofs.Meeting.{meet_else, meet_then}
use Rattle.mimic_expect.proofs.judgement.meet.Goals as goal

pub returns-then-is_some : goal.returns-then-is_some
returns-then-is_some g c =
    let t = c.take.ensures in
    let m = meet_then (λ e. expected_read e.now) _ _ (entry_read c.args.row.now) c.take.result t.found t.left (sym c.is_some.ensures ∙ c.if-is_some.true) in
    record { met = c.if-is_some.true ∙ m.0; left = m.1 }

pub returns-else-is_some : goal.returns-else-is_some
returns-else-is_some g c =
    let t = c.take.ensures in
    let u = c.take-else-is_some.ensures in
    let m = meet_else (λ e. expected_read e.now) _ _ _ (entry_read c.args.row.now) c.take.result c.take-else-is_some.result
    t.found t.left (sym c.is_some.ensures ∙ c.if-is_some.false) u.found u.left in
    record { met = c.is_some-else-is_some.ensures ∙ m.0; left = m.1 }
