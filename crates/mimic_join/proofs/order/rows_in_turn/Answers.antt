use Rattle.std.proofs.Common.{◌∙◌, ap, map, refl, rules}
use Rattle.std.proofs.lemmas.Iterator.{YieldsList-from_map_by, items_from_drains}
use Rattle.std.proofs.lemmas.Iterator.Consumers.{YieldsList-at}
use Rattle.std.proofs.lemmas.Iterator.Adapters.{YieldsList-from_vec}
use Rattle.std.proofs.lemmas.List.{map-id}
use Rattle.std.specs.Vec.Iter.{into_iter_items, into_iter_steps}
use Rattle.mimic_join.specs.Joined.{rows_in}
use Rattle.mimic_join.proofs.Taking.{turned}
use Rattle.mimic_join.proofs.order.rows_in_turn.Goals as goal

pub returns : goal.returns
returns c =
    let ran = c.in_ok-collect.ensures.ran in
    simp map-id at
    (turned into_iter_steps (λ row. row) into_iter_items (λ list. YieldsList-from_vec _ refl list.rest.ok.0) c.taken_in_turn.result
    _ _ (ap (map into_iter_items) ran.2.0 ∙ items_from_drains ran.0 ran.1 (YieldsList-from_map_by _ into_iter_items rows_in
    (YieldsList-at c.map-lists.ensures.source
    (YieldsList-from_vec _ c.into_iter.ensures.rest (c.into_iter.ensures.len ∙ c.args.reports.ok.0)))
    c.map-lists.ensures.closure (λ x r q k. search rules))) c.taken_in_turn.ensures)
