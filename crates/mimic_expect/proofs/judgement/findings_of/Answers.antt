use Rattle.std.proofs.Common.{refl}
use Rattle.mimic_events.specs.Contents.{entry_read}
use Rattle.mimic_expect.proofs.Meeting.{read_left}
use Rattle.mimic_expect.proofs.judgement.findings_of.Goals as goal

pub returns : goal.returns
returns g c =
    let a = c.in_ok-add_findings.ensures in
    rw (c.in_ok-add_failures.ensures, c.deref.ensures.value, c.in_ok-left.ensures)
    (rw (read_left (λ row. entry_read row.now) c.add_findings.new.others, a.1, a.0, c.in_ok-items.ensures, c.new-unexpected.ensures.items) refl)
