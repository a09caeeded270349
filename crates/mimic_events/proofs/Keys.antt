-- Keys of rows.
use Rattle.std.proofs.Common.{◌≡◌, ◌||◌, ℕ, ◌+◌, ◌<◌, Bool, true, false, cond, List, [], ◌∷◌, ◌++◌, append_assoc, get_or, length, map, take, Option, None, Some, refl, sym, ap, ap₂, ◌∙◌}
use Rattle.std.specs.Bool.{Decides}
use Rattle.std.specs.Cmp.{decided}
use Rattle.std.specs.HashSet.{HashSet, contains}
use Rattle.std.specs.List.{list_any}
use Rattle.std.specs.Option.{option_eq}
use Rattle.std.specs.Str.{bytes_eq}
use Rattle.std.proofs.lemmas.Bool.Decides.{Decides-and}
use Rattle.std.proofs.lemmas.List.{map_more}
use Rattle.std.proofs.lemmas.List.Folds.{list_any-append}
use Rattle.std.proofs.lemmas.Slice.Eq.{bytes_eq-Decides}
use Rattle.mimic_printer.specs.Row.{Label}
use Rattle.mimic_events.specs.Key.{HasTrials, Key, is_same, key_read, label_in, of_trial, same_key, same_label}
use Rattle.mimic_events.specs.declared.key.Key.{Key as Found}
use Rattle.mimic_events.specs.declared.key.Key.TheVariants.{Trial}
use Rattle.mimic_events.specs.declared.report.Row.{Row}
use denote.Ref.{Bor}

-- ---- that this is equality

messages-decide : (f g : Option (List ℕ)) → Decides (option_eq bytes_eq f g) (f ≡ g)
messages-decide None None = (λ h. refl, λ e. refl)
messages-decide (Some f) (Some g) =
    let d = bytes_eq-Decides f g in
    (λ h. ap (λ x. Some x) (d.0 h), λ e. let p : f ≡ g = cc in d.1 p)
messages-decide f g = (λ h. absurd (cc), λ e. absurd (cc))

abbrev label : List ℕ → List ℕ → Label
label kind name = record { kind = kind; name = name }

pub same_label-decides : (a b : Label) → Decides (same_label a b) (a ≡ b)
same_label-decides a b =
    let d = Decides-and _ _ (bytes_eq-Decides a.kind b.kind) (bytes_eq-Decides a.name b.name) in
    (λ h. let e = d.0 h in ap₂ label e.0 e.1, λ e. d.1 (ap (λ (x : Label). x.kind) e, ap (λ (x : Label). x.name) e))

abbrev key : Option (List ℕ) → Label → Key
key message label = record { label = label; message = message }

pub same_key-decides : (a b : Key) → Decides (same_key a b) (a ≡ b)
same_key-decides a b =
    let d = Decides-and _ _ (messages-decide a.message b.message) (same_label-decides a.label b.label) in
    (λ h. let e = d.0 h in ap₂ key e.0 e.1, λ e. d.1 (ap (λ (x : Key). x.message) e, ap (λ (x : Key). x.label) e))

pub same_label-symm : (a b : Label) → same_label a b ≡ same_label b a
same_label-symm = (decided same_label same_label-decides).symm

pub same_key-symm : (a b : Key) → same_key a b ≡ same_key b a
same_key-symm = (decided same_key same_key-decides).symm

-- ---- sets

-- a row, wherever it is
abbrev pub at_row : Row → Bor Row
at_row row = record { ref_ptr = (0, 0); now = row }

-- a set that has one more trial
pub grown : {S : Type 0} (old new : HashSet Found S) (labels : List Label) (row : Row)
    → ((key : Found) → contains is_same new key ≡ cond (is_same (Trial (at_row row)) key) true (contains is_same old key))
    → HasTrials old labels → HasTrials new (labels ++ label_in row ∷ [])
grown old new labels row updates has key =
    let test : Label → Bool = λ label. same_key (key_read key) (of_trial label) in
    updates key ∙ ap₂ (λ (a b : Bool). cond a true b) (same_key-symm (of_trial (label_in row)) (key_read key)) (has key)
    ∙ turned (test (label_in row)) (list_any test labels) ∙ sym (list_any-append test labels (label_in row ∷ []))
  where
    turned : (a b : Bool) → cond a true b ≡ (b || (a || false))
    turned true true = refl
    turned true false = refl
    turned false true = refl
    turned false false = refl

-- one more label, where a loop takes them from a list
pub labels_more : {X : Type 0} (f : X → Label) (labels : List Label) (xs : List X) (i : ℕ) (x : X) → i < length xs → x ≡ get_or xs i x
    → (labels ++ map f (take i xs)) ++ f x ∷ [] ≡ labels ++ map f (take (i + 1) xs)
labels_more f labels xs i x lt is =
    append_assoc labels (map f (take i xs)) (f x ∷ [])
    ∙ ap (λ (l : List Label). labels ++ l) (ap (λ y. map f (take i xs) ++ f y ∷ []) is ∙ sym (map_more f xs i x lt))
