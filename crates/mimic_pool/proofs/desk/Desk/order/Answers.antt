use Rattle.std.proofs.Common.{◌∙◌, ap}
use Rattle.mimic_pool.specs.Prelude.{outcome_at, places_of}
use Rattle.mimic_pool.proofs.Numbering.{order_shown, shown_whole}
use Rattle.mimic_pool.proofs.desk.Desk.order.Goals as goal

pub returns-clause-places : goal.returns-clause-places
returns-clause-places c = c.as_slice.ensures.value ∙ (order_shown (outcome_at c.self.inside) c.self.inside.order.items ∙ ap (λ desk. places_of desk.rows) c.self.view_is)

pub returns-clause-whole : goal.returns-clause-whole
returns-clause-whole c = shown_whole c.self.inside c.args.self.now c.self.invariant c.self.view_is
