use Rattle.std.proofs.Common.{◌≡◌, ◌∙◌, filter, map, rules, sym, tests}
use Rattle.std.proofs.lemmas.Iterator.{YieldsList-from_map, YieldsList-from_slice, items_from_collect}
use Rattle.std.proofs.lemmas.Iterator.Consumers.{YieldsList-at, YieldsList-from_filter}
use Rattle.std.proofs.lemmas.Result.{IfOk-weaker}
use Rattle.std.proofs.lemmas.Simd.{map-map}
use Rattle.mimic_expect.proofs.keyed_items.KeyedItems.left.Goals as goal

pub returns : goal.returns
returns g c =
    let items = c.self.inside.items.items in
    rw (← c.self.view_is) (IfOk-weaker c.collect.result (λ left. left.items ≡ map (λ i. i.1) (filter (λ i. i.2) items)) _
    (λ left e. e ∙ sym (map-map _ _ (filter (λ i. i.2) items)))
    (items_from_collect _ c.collect.ensures.ran (YieldsList-from_map _ (λ i. i.1)
    (YieldsList-at c.map.ensures.source (YieldsList-from_filter _ (λ i. i.2) (YieldsList-from_slice items cc)
    c.filter.ensures.closure (λ x r q k. search (rules, tests))))
    c.map.ensures.closure (λ x r q k. search (rules, tests)))))
