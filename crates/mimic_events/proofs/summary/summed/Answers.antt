use Rattle.mimic_events.proofs.Summaries.{summary_front_is, summary_read, totals_of}
use Rattle.mimic_events.proofs.summary.summed.Goals as goal

pub returns-in_err-after_counts : goal.returns-in_err-after_counts
returns-in_err-after_counts c = rw c.from_residual.ensures (λ entries e v h.
    c.in_err-after_counts.ensures (totals_of v.0 v.1) (summary_front_is entries c.args.counts.now c.args.line.now v e h))

pub returns : goal.returns
returns c = λ entries e.
    summary_read entries c.args.counts.now c.args.line.now c.in_ok-after_counts.field-0.now c.totals.result e c.in_ok-after_counts.ensures c.totals.ensures
