use Rattle.std.proofs.Common.{arith, length, rules, true, ◌≡◌}
use Rattle.std.proofs.lemmas.Grind.{common_steps}
use Rattle.mimic_events.specs.Key.{key_read}
use Rattle.mimic_events.proofs.Keys.{same_key-symm}
use Rattle.mimic_expect.proofs.KeyedPlaces.{left-push, places-push}
use Rattle.mimic_expect.proofs.keyed_items.KeyedItems.new.Goals as goal

pub loop-key-preserved : goal.loop-key-preserved
loop-key-preserved g c =
    let item = c.loop-key-item.result in
    let count : c.len.result ≡ length c.loop-key.all.items = search rules in
    record {
      left = rw (c.in_ok-push.ensures.items, left-push c.loop-key.all.items item.0 item.1 true) (grind (arith, common_steps));
      places = λ key. rw (c.in_ok-push.ensures.items, places-push (key_read key) c.loop-key.all.items item.0 item.1)
          (rw (same_key-symm (key_read key) (key_read item.0), ← c.loop-key.invariant.places key, ← count) (c.in_ok-add_place.ensures key));
    }
