-- One more row that is kept.
use Rattle.std.proofs.Common.{◌≡◌, cond, List, [], ◌∷◌, ◌++◌, refl, arith}
use Rattle.std.specs.Prelude.{Some}
use Rattle.std.specs.HashMap.{HashMap, get}
use Rattle.std.specs.List.{list_any}
use Rattle.std.proofs.lemmas.Grind.{common_steps}
use Rattle.indexmap.specs.IndexMap.{insert_entry}
use Rattle.indexmap.proofs.SetLemmas.{keys_insert_entry}
use Rattle.mimic_printer.specs.Json.{Entry}
use Rattle.mimic_printer.specs.Row.{Label}
use Rattle.mimic_events.specs.Key.{same_label}
use Rattle.mimic_events.proofs.Keys.{same_label-decides, same_label-symm}
use Rattle.mimic_compare.specs.Classes.{distinct}
use Rattle.mimic_compare.specs.Fates.{fate_of, fates_with}
use Rattle.mimic_compare.specs.Trials.{Keeps, fates_at, with_fate}
use Rattle.mimic_compare.specs.declared.fates.BothFates.{BothFates}
use Rattle.mimic_compare.specs.declared.fates.Side.{Side}
use Rattle.mimic_compare.proofs.Laws.{distinct_stand}

-- one more label
distinct_push : (labels : List Label) (label : Label)
    → distinct (labels ++ label ∷ []) ≡ cond (list_any (same_label label) labels) (distinct labels) (distinct labels ++ label ∷ [])
distinct_push [] label = refl
distinct_push (first ∷ labels) label = grind (arith, common_steps, distinct_push labels label, same_label-symm first label)

-- one more row of a report
fates_push : (label : Label) (rows : List Entry) (e : Entry)
    → fates_with label (rows ++ e ∷ []) ≡ cond (same_label label e.label) (fates_with label rows ++ fate_of e ∷ []) (fates_with label rows)
fates_push label rows e = grind (arith, common_steps)

-- one more row is kept
pub kept : {S : Type 0} (old new : HashMap Label BothFates S) (side : Side) (e : Entry) (v : BothFates)
    → ((label : Label) → get same_label new label ≡ cond (same_label e.label label) (Some v) (get same_label old label))
    → new.entries ≡ insert_entry same_label old.entries e.label v → v ≡ with_fate side (fate_of e) (fates_at old e.label) → Keeps old new side (e ∷ [])
kept old new side e v updates entries is = grind (arith, common_steps, keys_insert_entry, distinct_stand, distinct_push, fates_push, same_label-symm, same_label-decides)
