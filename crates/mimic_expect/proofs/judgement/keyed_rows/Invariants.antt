use Rattle.std.proofs.Common.{◌≡◌, map, take}
use Rattle.mimic_events.specs.Key.{key_read}
use Rattle.mimic_expect.specs.Expect.{labelled}
use Rattle.mimic_expect.specs.JudgementText.{entries_read, rows_left}
use Rattle.mimic_expect.proofs.judgement.keyed_rows.Given as goal

abbrev pub invariant-loop-row : goal.invariant-loop-row
invariant-loop-row g l = rows_left (map (λ x. (key_read x.0, x.1)) l.items.items) ≡ labelled (entries_read (take l.row-index l.rows))
