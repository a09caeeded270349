use Rattle.std.proofs.Common.{ap, sym}
use Rattle.std.specs.Option.{is_some}
use Rattle.mimic_expect.proofs.KeyedPlaces.{place_gone}
use Rattle.mimic_expect.proofs.keyed_items.first_place.Goals as goal

pub returns : goal.returns
returns g c =
    let is = sym c.in_ok-get_mut.ensures.value in
    place_gone c.args.places.now (c.get_mut.follows.lender c.pop_front.new.self) c.args.key.now c.in_ok-place.place _ c.pop_front.new.self is c.in_ok-place.ensures.items
    ((c.get_mut.follows.holds c.pop_front.new.self).3 (ap is_some is)).0
