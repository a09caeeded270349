-- What is reported of the rows that have come.
use Rattle.std.proofs.Common.{◌≡◌, ◌==◌, ℕ, suc, Bool, List, [], ◌∷◌, length, map, slice_get, refl, arith}
use Rattle.std.specs.Prelude.{Some}
use Rattle.std.specs.HashMap.{HashMap, IsEmpty, IsUnique}
use Rattle.std.specs.Map.{keys_of}
use Rattle.std.specs.Cmp.{IsEquivalence, decided}
use Rattle.std.proofs.lemmas.Bool.Decides.{nat_tests}
use Rattle.std.proofs.lemmas.Map.Entries.{hash_map_get_place}
use Rattle.indexmap.specs.IndexMap.{index_map_len}
use Rattle.mimic_printer.specs.Row.{Label}
use Rattle.mimic_events.specs.Key.{same_label}
use Rattle.mimic_events.proofs.Keys.{same_label-decides}
use Rattle.mimic_compare.specs.Classes.{Compared, compared, comparisons, distinct, labels_in}
use Rattle.mimic_compare.specs.Trials.{Come, Holds, Keeps, compared_entry, fates_in, found_among}
use Rattle.mimic_compare.specs.declared.fates.BothFates.{BothFates}
use Rattle.mimic_compare.specs.declared.fates.Side.TheVariants.{Old, New}
use Rattle.mimic_printer.specs.Json.{Entry}

laws : IsEquivalence same_label
laws = decided same_label same_label-decides

-- the entries are the keys with what the function has of them
entries_are : (f : Label → BothFates) (es : List (Label × BothFates)) → ((i : ℕ) (k : Label) (v : BothFates) → slice_get es i ≡ Some (k, v) → v ≡ f k)
    → (judged : Bool) → map (compared_entry judged) es ≡ map (λ k. compared judged k (f k).old (f k).new) (keys_of es)
entries_are f [] h judged = refl
entries_are f (e ∷ es) h judged = grind (arith, entries_are f es (λ i k v is. h (suc i) k v is) judged, h 0 e.0 e.1 refl)

-- what is reported of the table is that of the rows that have come
pub all_found : {S : Type 0} (judged : Bool) (m : HashMap Label BothFates S) (come : Come) → IsUnique same_label m → Holds m come
    → map (compared_entry judged) m.entries ≡ found_among judged come
all_found judged m come unique h = rw (entries_are (fates_in come) m.entries (λ i k v is. grind (arith, hash_map_get_place laws m i k v unique is, h.fates k)) judged, h.labels) refl

-- the rows of the old report alone were kept
kept_first : {S : Type 0} (a b : HashMap Label BothFates S) (old : List Entry) → IsEmpty a → Keeps a b Old old → Holds b (record { labels = labels_in old; old = old; new = [] })
kept_first a b old empty first = first (record { labels = []; old = []; new = [] }) (rw empty record { labels = refl; fates = λ label. refl })

as_empty : (es : List (Label × BothFates)) (rows : List Entry) → keys_of es ≡ distinct (labels_in rows) → (length es == 0) ≡ (length rows == 0)
as_empty [] [] h = refl
as_empty [] (row ∷ rows) h = absurd (cc)
as_empty (e ∷ es) [] h = absurd (cc)
as_empty (e ∷ es) (row ∷ rows) h = grind (arith, nat_tests)

-- the table is empty exactly if no row of the old report was kept
pub none_kept : {S : Type 0} (a b : HashMap Label BothFates S) (old : List Entry) → IsEmpty a → Keeps a b Old old → (index_map_len b == 0) ≡ (length old == 0)
none_kept a b old empty first = as_empty b.entries old (kept_first a b old empty first).labels

-- what is found when the old rows were kept and then the new ones
pub found_both : {S : Type 0} (a b c : HashMap Label BothFates S) (old new : List Entry) (judged : Bool) (found : List Compared) → IsEmpty a → Keeps a b Old old → Keeps b c New new
    → ((come : Come) → Holds c come → found ≡ found_among judged come) → found ≡ comparisons judged old new
found_both a b c old new judged found empty first second all =
    all _ (second _ (kept_first a b old empty first))
