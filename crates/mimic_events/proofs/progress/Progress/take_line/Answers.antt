use Rattle.std.proofs.Common.{◌<◌, ◌≤◌, [], ◌∷◌, append-nil, length, ap, arith}
use Rattle.std.proofs.lemmas.List.{length-append}
use Rattle.mimic_printer.specs.Json.{Entry}
use Rattle.mimic_events.specs.Contents.{label_read}
use Rattle.mimic_events.specs.Progress.{next_of, state_with}
use Rattle.mimic_events.proofs.Summaries.{counts_more}
use Rattle.mimic_events.proofs.States.{takes_announcement, takes_outcome, takes_summary, takes_title}
use Rattle.mimic_events.proofs.progress.Progress.take_line.Goals as goal
use Rattle.mimic_events.proofs.progress.Progress.take_line.Goals.{in-Title+in-Some, in-Row+in_ok-label-in-Row+in-Some-2, in-Row-2+in-Some-summed, in-Outcome+in_ok-outcome-in-Outcome+in-Some-3}

pub returns : goal.returns
returns c = λ entries h. elim c.match-self.branch [
  | in-Title+in-Some w ↦
      rw (w.row-is, w.self-is, append-nil entries)
      (h, takes_title (state_with c.args.self.now entries) c.args.line.now w.in-Some.count (ap next_of w.in-Title.is) w.in-Some.ensures)
  | in-Row+in_ok-label-in-Row+in-Some-2 w ↦
      let less : length entries < c.args.self.now.announced = omega (arith, h.0, w.if-self.true) in
      let label = rw w.in-Some-2.is at w.in_ok-label-in-Row.ensures in
      rw (w.row-is, w.self-is, append-nil entries)
      (h, takes_announcement (state_with c.args.self.now entries) c.args.line.now (label_read w.in-Some-2.label) (ap next_of w.in-Row.is) less label)
  | in-Row-2+in-Some-summed w ↦
      let all : c.args.self.now.announced ≤ length entries = omega (arith, h.0, w.if-self.false) in
      rw (w.row-is, w.self-is, append-nil entries) (
        h,
        takes_summary (state_with c.args.self.now entries) c.args.line.now (w.in-Some-summed.filtered_out, w.in-Some-summed.nanos) (ap next_of w.in-Row-2.is) all
            (w.in-Some-summed.ensures entries h.1),
      )
  | in-Outcome+in_ok-outcome-in-Outcome+in-Some-3 w ↦
      let outcome = rw w.in-Some-3.is at w.in_ok-outcome-in-Outcome.ensures in
      let one : Entry = record { label = label_read w.in-Outcome.label; outcome = w.in-Some-3.outcome; nanos = w.in-Some-3.nanos } in
      let more = counts_more entries c.args.self.now.counts one h.1 in
      rw (w.row-is, w.self-is, w.count.ensures, w.replace-name.ensures.value, w.replace-kind.ensures.value) (
        (omega (arith, h.0, length-append entries (one ∷ [])), more),
        takes_outcome (state_with c.args.self.now entries) c.args.line.now (label_read w.in-Outcome.label) (w.in-Some-3.outcome, w.in-Some-3.nanos) (ap next_of w.in-Outcome.is) outcome,
      )
]
