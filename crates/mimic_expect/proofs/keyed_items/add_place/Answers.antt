use Rattle.std.proofs.Common.{ap, sym}
use Rattle.std.specs.Option.{is_some}
use Rattle.mimic_expect.proofs.KeyedPlaces.{place_added}
use Rattle.mimic_expect.proofs.keyed_items.add_place.Goals as goal

pub returns-in-Some : goal.returns-in-Some
returns-in-Some g c =
    let is = sym c.in-Some.ensures.value in
    place_added c.args.places.now (c.get_mut.follows.lender c.push_back.new.self) c.args.key c.args.place _ c.push_back.new.self is c.in_ok-push_back.ensures.items
    ((c.get_mut.follows.holds c.push_back.new.self).3 (ap is_some is)).0
