use Rattle.std.proofs.Common.{append-nil, sym}
use Rattle.std.proofs.lemmas.List.{map-append}
use Rattle.mimic_events.specs.Contents.{entry_read}
use Rattle.mimic_events.specs.declared.report.Row.{Row}
use Rattle.mimic_printer.specs.Json.{Entry}
use Rattle.mimic_expect.proofs.Meeting.{left_by-more, one_more, unmet_by-more}
use Rattle.mimic_expect.proofs.judgement.unmet_in.Goals as goal
use Rattle.mimic_expect.proofs.judgement.unmet_in.Goals.{then-not-meet+in_ok-push, else-not-meet}
use denote.Ref.{Bor}

pub loop-row-preserved : goal.loop-row-preserved
loop-row-preserved g c =
    let i = c.loop-row.invariant in
    let read : Bor Row → Entry = λ row. entry_read row.now in
    let more = one_more read c.args.failed.now c.loop-row.row-index c.row-item.result c.loop-row-test.true c.row-item.is in
    record {
      unmet = rw (more, unmet_by-more, ← i.unmet, ← i.left, ← c.meet.ensures.met) (elim c.if-not-meet.branch [
        | then-not-meet+in_ok-push w ↦ rw (w.unmet-is, w.in_ok-push.ensures.items, w.if-not-meet.true) (map-append read c.loop-row.unmet.items _)
        | else-not-meet w ↦ rw (w.unmet-is, w.if-not-meet.false) (sym (append-nil _))
      ]);
      left = rw (more, left_by-more, ← i.left) c.meet.ensures.left;
    }
