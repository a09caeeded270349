use Rattle.std.proofs.Common.{◌∙◌, map, refl, sym, take}
use Rattle.mimic_expect.specs.JudgementText.{finding_read}
use Rattle.mimic_expect.proofs.Meeting.{one_more}
use Rattle.mimic_expect.proofs.Updates.{left_at, put_at}
use Rattle.mimic_expect.proofs.updated.changes_of.Goals as goal
use Rattle.mimic_expect.proofs.updated.changes_of.Goals.{in-Some+in_ok-insert, in_default}

pub loop-one-preserved : goal.loop-one-preserved
loop-one-preserved c = λ number.
    let one = c.one-item.result in
    let found = map finding_read (take c.loop-one.one-index c.args.found.now) in
    let before = c.loop-one.invariant number in
    let more = one_more finding_read c.args.found.now c.loop-one.one-index one c.loop-one-test.true c.one-item.is in
    rw more (elim c.match-line.branch [
      | in-Some+in_ok-insert w ↦
          rw w.changes-is (put_at found (finding_read one) w.in-Some.line number _ _ one (sym w.in-Some.ensures) refl before (w.in_ok-insert.ensures.updates.0 number))
      | in_default w ↦ rw w.changes-is (before ∙ sym (left_at found (finding_read one) number (sym c.line.ensures ∙ w.in_default.is)))
    ])
