use Rattle.std.proofs.Common.{◌≡◌, arith, get_or, sym}
use Rattle.mimic_expect.proofs.KeyedPlaces.{none_taken, one_taken, places_taken}
use Rattle.mimic_expect.proofs.keyed_items.KeyedItems.take.Goals as goal

pub returns-in_err-place : goal.returns-in_err-place
returns-in_err-place g c =
    let t = none_taken c.self.inside.places c.first_place.new.places c.self.inside.items.items c.args.key.now c.self.invariant c.in_err-place.ensures.0 in
    record { found = rw (c.from_residual.ensures, ← c.self.view_is) t.0; left = rw (← c.self.view_is) t.1 }

pub index_mut-requires : goal.index_mut-requires
index_mut-requires g c =
    let h = (one_taken c.self.inside.places c.first_place.new.places c.self.inside.items.items c.args.key.now
    c.self.invariant c.in_ok-place.place c.in_ok-place.ensures).within in
    omega (arith, h)

pub invariant_of-self-2 : goal.invariant_of-self-2
invariant_of-self-2 g c =
    places_taken c.self.inside.places c.first_place.new.places c.self.inside.items.items c.args.key.now
    c.self.invariant c.in_ok-place.place c.in_ok-place.ensures c.index_mut.result.now
    (sym c.index_mut.ensures.value)

pub returns : goal.returns
returns g c =
    let t = one_taken c.self.inside.places c.first_place.new.places c.self.inside.items.items c.args.key.now c.self.invariant c.in_ok-place.place c.in_ok-place.ensures in
    let i = c.index_mut.result.now in
    let e : get_or c.self.inside.items.items c.in_ok-place.place i ≡ i = sym c.index_mut.ensures.value in
    record { found = rw (← c.self.view_is) (sym (rw e at (t.found i))); left = rw (← c.self.view_is) (sym (rw e at (t.left i))) }
