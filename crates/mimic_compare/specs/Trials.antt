-- Rows as they are kept by their kinds and names. No public clause names these words.
use Rattle.std.specs.Prelude.{◌≡◌, Bool, List, [], ◌∷◌, ◌++◌, map, unwrap_or}
use Rattle.std.specs.HashMap.{HashMap, get, keys}
use Rattle.mimic_printer.specs.Json.{Entry}
use Rattle.mimic_printer.specs.Row.{Label}
use Rattle.mimic_events.specs.Key.{same_label}
use Rattle.mimic_compare.specs.Classes.{Compared, compared, distinct, labels_in}
use Rattle.mimic_compare.specs.Fates.{Fate, fates_with}
use Rattle.mimic_compare.specs.declared.fates.BothFates.{BothFates}
use Rattle.mimic_compare.specs.declared.fates.Side.{Side}
use Rattle.mimic_compare.specs.declared.fates.Side.TheVariants.{Old, New}

-- the rows of both reports that have come, and the kinds and names of all in the order in which they came
pub record Come : Type 0 where
  pub labels : List Label
  pub old : List Entry
  pub new : List Entry

-- these rows of a report came as well
abbrev pub with_rows : Side → List Entry → Come → Come
with_rows Old rows come = record { labels = come.labels ++ labels_in rows; old = come.old ++ rows; new = come.new }
with_rows New rows come = record { labels = come.labels ++ labels_in rows; old = come.old; new = come.new ++ rows }

abbrev pub both : List Fate → List Fate → BothFates
both old new = record { old = old; new = new }

-- with one more row
abbrev pub with_fate : Side → Fate → BothFates → BothFates
with_fate Old fate fates = both (fates.old ++ fate ∷ []) fates.new
with_fate New fate fates = both fates.old (fates.new ++ fate ∷ [])

-- what the rows that have come say of a kind and a name
abbrev pub fates_in : Come → Label → BothFates
fates_in come label = both (fates_with label come.old) (fates_with label come.new)

-- what is kept of a kind and a name
abbrev pub fates_at : {S : Type 0} → HashMap Label BothFates S → Label → BothFates
fates_at trials label = unwrap_or (get same_label trials label) (both [] [])

-- the table has each kind and name that has come, in the order in which they first came, and what their rows say
pub record Holds {S : Type 0} (trials : HashMap Label BothFates S) (come : Come) : Type 0 where
  pub labels : keys trials ≡ distinct come.labels
  pub fates : (label : Label) → fates_at trials label ≡ fates_in come label

-- the rows of this report came as well
abbrev pub Keeps : {S : Type 0} → HashMap Label BothFates S → HashMap Label BothFates S → Side → List Entry → Type 0
Keeps old new side rows = (come : Come) → Holds old come → Holds new (with_rows side rows come)

-- what is reported for an entry of the table
abbrev pub compared_entry : Bool → Label × BothFates → Compared
compared_entry judged e = compared judged e.0 e.1.old e.1.new

-- what is reported for the rows that have come
abbrev pub found_among : Bool → Come → List Compared
found_among judged come = map (λ label. compared judged label (fates_with label come.old) (fates_with label come.new)) (distinct come.labels)
