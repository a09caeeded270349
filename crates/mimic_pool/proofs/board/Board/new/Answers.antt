use Rattle.std.proofs.Common.{arith, ◌∙◌, ap, eqb, false, refl, slice_index_or, sym}
use Rattle.std.specs.List.{list_any}
use Rattle.mimic_pool.proofs.Elements.{all_same}
use Rattle.mimic_pool.proofs.Reporting.{all_calls}
use Rattle.mimic_pool.proofs.Numbering.{distinct_none}
use Rattle.mimic_pool.proofs.board.Board.new.Goals as goal

pub invariant_of-result : goal.invariant_of-result
invariant_of-result c =
    let order = c.in_ok-rows.ensures.order in
    record {
      known = λ place. ap (list_any (eqb place)) order ∙ sym (ap (λ flags. slice_index_or flags place false) (c.in_ok-reported.ensures.items_if_clones_equal (λ y is. is)) ∙ all_same false c.args.n place);
      distinct = rw order distinct_none;
      taken = omega (arith, c.in_ok-rows.ensures.taken);
      waiting = rw (order, c.in_ok-rows.ensures.empty, c.in_ok-rows.ensures.taken) refl;
      room = omega (arith, c.in_ok-rows.ensures.room, c.in_ok-reported.ensures.len, c.in_ok-reported.reported.ok);
      closed = omega arith;
    }

pub returns-clause-law : goal.returns-clause-law
returns-clause-law c = all_calls
