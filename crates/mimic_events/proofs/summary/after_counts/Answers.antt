use Rattle.mimic_events.proofs.summary.after_counts.Goals as goal

pub returns : goal.returns
returns c =
    rw (c.as_bytes.ensures.value, c.json_verdict.ensures, c.as_bytes-2.ensures.value, c.format.ensures.text, c.as_bytes-3.ensures.value, c.format-2.ensures.text, c.as_bytes-4.ensures.value, c.format-3.ensures.text, c.as_bytes-5.ensures.value, c.format-4.ensures.text)
    at c.after_all.ensures
