use Rattle.std.proofs.Common.{◌≡◌, ◌+◌, ◌++◌, drop, length}
use Rattle.std.specs.Vec.Iter.{into_iter_items}
use Rattle.mimic_pool.specs.Prelude.{missing_of, placed_at}
use Rattle.mimic_pool.proofs.FirstArrivals.{missing_from}
use Rattle.mimic_pool.proofs.desk.Desk.arrive_missing.Given as goal

abbrev pub invariant-loop-outcome : goal.invariant-loop-outcome
invariant-loop-outcome l =
    let left = into_iter_items l.outcome-iterator in
    record {
      places : l.self.places ≡ l.fn.self.places;
      rows : l.self.rows ++ placed_at (missing_from l.place (length left) l.self.rows) l.fn.outcomes.items ≡ l.fn.self.rows ++ placed_at (missing_of l.fn.self) l.fn.outcomes.items;
      rest : left ≡ drop l.place l.fn.outcomes.items;
      count : l.place + length left ≡ length l.fn.outcomes.items;
    }
