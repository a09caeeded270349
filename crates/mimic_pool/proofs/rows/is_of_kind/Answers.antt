use Rattle.std.proofs.Common.{arith, length, sym, ◌<◌, ◌∙◌}
use Rattle.std.specs.Prelude.{IsSome}
use Rattle.mimic_pool.proofs.Returning.{same_kept}
use Rattle.mimic_pool.proofs.rows.is_of_kind.Goals as goal

pub returns-in-Kept : goal.returns-in-Kept
returns-in-Kept c =
    let ok = c.args.kept.now.ok in
    let low : c.args.index < length c.args.kept.now.items = let fits = rw c.in-Kept.is at c.requires in omega (arith, fits, ok) in
    let within : IsSome c.get.result → c.args.index < length c.args.kept.now.items = λ some. low in
    let some : c.args.index < length c.args.kept.now.items → IsSome c.get.result = λ below. c.get.ensures.variant.1 (omega (arith, below, ok)) in
    let both = same_kept c.args.found c.get.result c.args.kept.now.items c.args.index low within some c.get.ensures.lookup in
    rw c.in-Kept.is (λ t. both.0 (sym c.eq.ensures ∙ t), λ is. c.eq.ensures ∙ both.1 is)
