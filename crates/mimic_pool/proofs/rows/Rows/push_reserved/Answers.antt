use Rattle.std.proofs.Common.{ap, arith, length-append, ◌∷◌, []}
use Rattle.mimic_pool.proofs.Returning.{kept_fits, rows_more, weight_more}
use Rattle.mimic_pool.proofs.rows.Rows.push_reserved.Goals as goal

pub keep-kind-requires : goal.keep-kind-requires
keep-kind-requires c =
    let places = c.self.inside.places.items in
    let kinds = c.self.inside.kinds.items in
    let inv = c.self.invariant in
    let few = kept_fits places kinds inv.kinds c.self.inside.taken inv.taken c.self.inside.kept.items inv.kept in
    let room = ap (λ r. r.room) c.self.view_is in
    let ok = c.self.inside.kept.ok in
    let its = c.self.inside.places.ok in
    omega (arith, few, room, c.requires, inv.kept_room)

pub invariant_of-self : goal.invariant_of-self
invariant_of-self c =
    let places = c.self.inside.places.items in
    let kinds = c.self.inside.kinds.items in
    let inv = c.self.invariant in
    let kind = c.keep-kind.ensures.kind in
    let kept = c.keep-kind.ensures.kept in
    let pushed = c.push_reserved.ensures.items in
    let placed = c.push_reserved-2.ensures.items in
    record {
      taken = rw placed (omega (arith, inv.taken, length-append places (c.args.place ∷ [])));
      kinds = rw (pushed, placed) (omega (arith, inv.kinds, length-append places (c.args.place ∷ []), length-append kinds (c.keep-kind.result ∷ [])));
      kept = rw (pushed, placed, kind, kept) (weight_more places kinds inv.kinds c.self.inside.taken inv.taken c.args.place c.args.outcome _ inv.kept);
      kinds_room = omega (arith, inv.kinds_room, c.push_reserved.ensures.capacity, c.push_reserved-2.ensures.capacity);
      kept_room = omega (arith, inv.kept_room, c.keep-kind.ensures.room, c.push_reserved-2.ensures.capacity);
    }

pub returns-clause-items : goal.returns-clause-items
returns-clause-items c =
    let places = c.self.inside.places.items in
    let kinds = c.self.inside.kinds.items in
    let inv = c.self.invariant in
    rw (c.push_reserved.ensures.items, c.push_reserved-2.ensures.items, c.keep-kind.ensures.kind, c.keep-kind.ensures.kept, ← c.self.view_is)
    (rows_more places kinds inv.kinds c.self.inside.taken inv.taken c.args.place c.args.outcome _ inv.kept)
