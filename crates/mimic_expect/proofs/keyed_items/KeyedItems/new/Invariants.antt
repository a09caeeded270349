use Rattle.std.proofs.Common.{◌≡◌, map, take}
use Rattle.mimic_events.specs.Key.{key_read}
use Rattle.mimic_expect.specs.KeyedItems.{ArePlaces, left_of}
use Rattle.mimic_expect.proofs.keyed_items.KeyedItems.new.Given as goal

abbrev pub invariant-loop-key : goal.invariant-loop-key
invariant-loop-key g l = record {
  left : left_of l.all.items ≡ map (λ x. (key_read x.0, x.1)) (take l.key-index l.items);
  places : ArePlaces l.places l.all.items;
}
