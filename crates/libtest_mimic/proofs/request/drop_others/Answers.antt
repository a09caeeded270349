use Rattle.std.proofs.Common.{◌≡◌, false, rules}
use Rattle.std.specs.Prelude.{◌↔◌, IsFalse}
use Rattle.libtest_mimic.specs.Prelude.{IsDropped}
use Rattle.libtest_mimic.proofs.Selecting.{LeavesOut-from_retain, LeavesOut-none}
use Rattle.libtest_mimic.proofs.request.drop_others.Goals as goal

pub returns-then-drops_nothing-clause-selection : goal.returns-then-drops_nothing-clause-selection
returns-then-drops_nothing-clause-selection g c = LeavesOut-none _ (c.drops_nothing.ensures (search rules)) c.args.trials.now.items

pub returns-clause-selection : goal.returns-clause-selection
returns-clause-selection g c = LeavesOut-from_retain _ (λ t. IsDropped c.args.args.now t) _
    (λ x b q k.
    let fact : IsFalse b ↔ IsDropped c.args.args.now k.shown.now = search rules in
    let here : IsFalse b ↔ IsDropped c.args.args.now x = rw k.shows at fact in
    ((λ e d. let f : b ≡ false = here.1 d in cc), (λ e. here.0 e), search rules))
    _ _ c.retain.ensures.filtered
