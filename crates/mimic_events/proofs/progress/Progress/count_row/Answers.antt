use Rattle.std.proofs.Common.{◌<◌, [], ◌∷◌, length, ap, refl, arith}
use Rattle.std.proofs.lemmas.List.{length-append}
use Rattle.mimic_printer.specs.Json.{Entry}
use Rattle.mimic_events.specs.Progress.{next_of, outcome_next, state_with}
use Rattle.mimic_events.proofs.EndedLines.{word_parts}
use Rattle.mimic_events.proofs.PlainRows.{announces_one, ends_one}
use Rattle.mimic_events.proofs.States.{takes_announcement, takes_outcome}
use Rattle.mimic_events.proofs.Summaries.{counts_more}
use Rattle.mimic_events.proofs.progress.Progress.count_row.Goals as goal

pub returns : goal.returns
returns c =
    let old = c.args.self.now in
    let row = c.in_ok-outcome.ensures in
    let one : Entry = record { label = row.label; outcome = c.in_ok-outcome.outcome; nanos = row.time } in
    record {
      entry = one;
      fits = record { label = row.fits; outcome = (word_parts c.in_ok-outcome.outcome row.word).1; nanos = row.time_fits };
      parts = row.parts;
      counted = λ entries h. rw c.count.ensures (omega (arith, h.0, length-append entries (one ∷ [])), counts_more entries old.counts one h.1);
      announced = λ entries h.
          let less : length entries < old.announced = omega (arith, h.0, c.if-self.true) in
          takes_announcement (state_with old entries) _ row.label (ap next_of c.in-Row.is) less (announces_one row.label row.fits);
      ended = λ entries h. rw c.in-Row.is (takes_outcome (record (state_with old entries) { next = outcome_next row.label }) _ row.label (c.in_ok-outcome.outcome, row.time) refl (ends_one row.label c.in_ok-outcome.outcome row.time row.word row.time_fits));
    }
