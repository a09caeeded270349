use Rattle.std.proofs.Common.{◌≡◌, length, vec_len}
use Rattle.mimic_pool.specs.Joined.{put_all}
use Rattle.mimic_pool.proofs.rows.put_rows.Given as goal

abbrev pub invariant-loop-place : goal.invariant-loop-place
invariant-loop-place l = record {
  put : put_all l.rows.items l.outcomes.items ≡ put_all l.fn.rows.items l.fn.outcomes.items;
  len : vec_len l.outcomes ≡ vec_len l.fn.outcomes;
}

-- the rows that are left
abbrev pub decreases-loop-place : goal.decreases-loop-place
decreases-loop-place l = length l.rows.items
