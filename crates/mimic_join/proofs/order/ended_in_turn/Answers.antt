use Rattle.std.proofs.Common.{◌∙◌, ap, map, refl, rules}
use Rattle.std.proofs.lemmas.Iterator.{YieldsList-from_map_by, YieldsList-from_slice, items_from_drains}
use Rattle.std.specs.Slice.Iter.{iter_rest, iter_steps}
use Rattle.mimic_join.specs.Cut.{ended_rows}
use Rattle.mimic_join.proofs.Taking.{turned}
use Rattle.mimic_join.proofs.order.ended_in_turn.Goals as goal

pub returns : goal.returns
returns c =
    let ran = c.in_ok-collect.ensures.ran in
    turned iter_steps (λ row. row.now) iter_rest (λ list. YieldsList-from_slice _ refl) c.taken_in_turn.result _ _
    (ap (map iter_rest) ran.2.0 ∙ items_from_drains ran.0 ran.1 (YieldsList-from_map_by _ iter_rest ended_rows
    (YieldsList-from_slice c.args.reads.now cc) c.map-lists.ensures.closure (λ x r q k. search rules))) c.taken_in_turn.ensures
