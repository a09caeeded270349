use Rattle.std.proofs.Common.{refl}
use Rattle.mimic_expect.specs.JudgementText.{entries_read}
use Rattle.mimic_expect.specs.Known.{expected_read}
use Rattle.mimic_expect.proofs.Meeting.{read_left}
use Rattle.mimic_expect.proofs.judgement.meeting.Goals as goal

pub returns : goal.returns
returns g c =
    let u = c.in_ok-unmet.ensures in
    let failed = entries_read c.args.failed.now in (
      rw (c.in_ok-left.ensures, read_left (λ e. expected_read e.now) c.unmet_in.new.items, u.1, c.in_ok-items.ensures) refl,
      rw (← c.in_ok-items.ensures) u.0,
    )
