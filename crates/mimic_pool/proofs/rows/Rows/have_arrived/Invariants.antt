use Rattle.std.proofs.Common.{◌≡◌, ◌+◌, ◌↔◌, drop, length}
use Rattle.std.specs.List.{zip}
use Rattle.mimic_pool.specs.Prelude.{HaveArrived, kinds_left, rows_of, weight_of_all}
use Rattle.mimic_pool.proofs.rows.Rows.have_arrived.Given as goal

abbrev pub invariant-loop-number : goal.invariant-loop-number
invariant-loop-number l =
    let rows = l.self-inside in
    let left = drop l.number (zip rows.places.items rows.kinds.items) in
    record {
      kept : l.kept + weight_of_all left ≡ length rows.kept.items;
      arrived : HaveArrived l.desk (rows_of left (drop l.kept rows.kept.items)) ↔ HaveArrived l.desk (rows_of (kinds_left rows) rows.kept.items);
    }
