use Rattle.std.proofs.Common.{◌≡◌, map, vec_len}
use Rattle.std.specs.Vec.Iter.{into_iter_items}
use Rattle.mimic_pool.specs.Prelude.{put_each, rows_in}
use Rattle.mimic_pool.proofs.rows.put_joined.Given as goal

abbrev pub invariant-loop-rows : goal.invariant-loop-rows
invariant-loop-rows l = record {
  put : put_each (map rows_in (into_iter_items l.rows-iterator)) l.outcomes.items ≡ put_each (map rows_in l.fn.joined.items) l.fn.outcomes.items;
  len : vec_len l.outcomes ≡ vec_len l.fn.outcomes;
}
