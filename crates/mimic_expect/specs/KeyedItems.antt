-- Items with keys, of which the first one left with a key can be taken. No public clause names these words.
use Rattle.std.specs.Prelude.{◌≡◌, ℕ, suc, Bool, true, false, cond, filter, List, [], ◌∷◌, map, Option, None, Some}
use Rattle.std.specs.HashMap.{HashMap, get}
use Rattle.std.specs.declared.collections.VecDeque.{VecDeque}
use Rattle.mimic_events.specs.Key.{Key, is_same, key_read, same_key}
use Rattle.mimic_events.specs.declared.key.Key.{Key as Found}

-- the items that are left, each by its key
abbrev pub left_of : {T : Type 0} → List (Found × T × Bool) → List (Key × T)
left_of items = map (λ i. (key_read i.0, i.1)) (filter (λ i. i.2) items)

-- the places of those with the key
abbrev pub places_of : {T : Type 0} → Key → List (Found × T × Bool) → List ℕ
places_of key [] = []
places_of key ((own, item, false) ∷ items) = map suc (places_of key items)
places_of key ((own, item, true) ∷ items) =
    cond (same_key key (key_read own)) (0 ∷ map suc (places_of key items)) (map suc (places_of key items))

-- the places that a table has for a key
abbrev pub queued : {Z : Type 0} → Option (VecDeque ℕ Z) → List ℕ
queued None = []
queued (Some queue) = queue.items

abbrev pub places_at : {S Z : Type 0} → HashMap Found (VecDeque ℕ Z) S → Found → List ℕ
places_at places key = queued (get is_same places key)

-- the table leads from each key to the places of the items that are left with it
abbrev pub ArePlaces : {T S Z : Type 0} → HashMap Found (VecDeque ℕ Z) S → List (Found × T × Bool) → Type 0
ArePlaces places items = (key : Found) → places_at places key ≡ places_of (key_read key) items
