-- The lists give what is left of the rows.
use Rattle.std.specs.Prelude.{List, All}
use Rattle.std.specs.List.{AllZip}
use Rattle.std.specs.Iterator.{AlwaysYields, size}
use Rattle.mimic_events.specs.declared.report.Row.{Row}
use Rattle.mimic_join.proofs.Taking.{Ends, Leave, left_in}
use Rattle.mimic_join.proofs.order.taken_in_turn.Given as goal

abbrev pub invariant-loop-list : goal.invariant-loop-list
invariant-loop-list g l = record {
  ends : All (Ends g.I.Iterator.can_next g.I.Iterator.remaining) l.lists.items;
  leave : (row_in : g.row.I-Item.Denot → Row) (all : List (List Row))
      → AllZip (AlwaysYields g.I.Iterator.next_gives row_in) l.fn.lists.items all
      → Leave g.I.Iterator.next_gives row_in l.lists.items l.rows.items all;
}

-- the rows that are left, and the lists
abbrev pub decreases-loop-list : goal.decreases-loop-list
decreases-loop-list g l = left_in (λ list. size (g.I.Iterator.remaining list)) l.lists.items
