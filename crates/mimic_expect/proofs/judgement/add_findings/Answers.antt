use Rattle.std.proofs.Common.{append-nil, append_assoc, sym}
use Rattle.std.proofs.lemmas.Grind.{flat_map-append}
use Rattle.std.proofs.lemmas.List.{map-append}
use Rattle.std.proofs.lemmas.Map.Made.{lookup-map_values}
use Rattle.mimic_events.specs.Contents.{entry_read}
use Rattle.mimic_events.specs.Key.{any_in, same_key}
use Rattle.mimic_events.specs.declared.report.Row.{Row}
use Rattle.mimic_printer.specs.Json.{Entry}
use Rattle.mimic_expect.specs.JudgementText.{finding_read}
use Rattle.mimic_expect.specs.Known.{expected_read}
use Rattle.mimic_expect.specs.declared.known.Expectation.{Expectation}
use Rattle.mimic_expect.proofs.Meeting.{answers-more, one_more, removed-over, unanswered-more}
use Rattle.mimic_expect.proofs.judgement.add_findings.Goals as goal
use Rattle.mimic_expect.proofs.judgement.add_findings.Goals.{in-Some+in_ok-push, in_default}
use denote.Ref.{Bor}

pub loop-expectation-preserved : goal.loop-expectation-preserved
loop-expectation-preserved g c =
    let i = c.loop-expectation.invariant in
    let e = c.expectation-item.result in
    let read : Bor Row → Entry = λ row. entry_read row.now in
    let test = same_key (any_in (entry_read e.now.row)) in
    let more = one_more (λ (e : Bor Expectation). expected_read e.now) c.args.left.now c.loop-expectation.expectation-index e
    c.loop-expectation-test.true c.expectation-item.is in
    record {
      found = rw (more, answers-more, flat_map-append, ← append_assoc, ← i.found, ← i.left)
          (rw (lookup-map_values read test c.loop-expectation.others, ← c.take-row.ensures.found, append-nil) (elim c.match-finding.branch [
            | in-Some+in_ok-push w ↦ rw (w.unexpected-is, w.in_ok-push.ensures.items, ← w.in-Some.ensures) (map-append finding_read c.loop-expectation.unexpected.items _)
            | in_default w ↦ rw (w.unexpected-is, ← w.in_default.ensures) (sym (append-nil _))
          ]));
      left = rw (more, unanswered-more, ← i.left, c.take-row.ensures.left) (removed-over read test c.loop-expectation.others);
    }
