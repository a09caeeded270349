-- What rows are found by: a kind and a name and, where it is asked, the message of a failure (our own).
use Rattle.std.specs.Prelude.{◌≡◌, ◌&&◌, ◌++◌, ℕ, Bool, List, Option, None}
use Rattle.std.specs.Cmp.{IsEquivalence, and_equiv, on_equiv}
use Rattle.std.specs.Cmp.Lexicographic.{nat_list_eq_equiv, options_equiv}
use Rattle.std.specs.Hash as fed
use Rattle.std.specs.HashSet.{HashSet, contains}
use Rattle.std.specs.List.{list_any}
use Rattle.std.specs.Option.{option_eq}
use Rattle.std.specs.Str.{bytes_eq}
use Rattle.mimic_trial.specs.declared.outcome.Outcome.{Outcome}
use Rattle.mimic_trial.specs.declared.outcome.Outcome.TheVariants as outcome
use Rattle.mimic_printer.specs.Json.{Entry}
use Rattle.mimic_printer.specs.Row.{Label}
use Rattle.mimic_events.specs.Contents.{entry_read}
use Rattle.mimic_events.specs.declared.key.Key.{Key as Found}
use Rattle.mimic_events.specs.declared.key.Key.TheVariants.{Trial, Failure}
use Rattle.mimic_events.specs.declared.report.Row.{Row}

-- a kind and a name, and the message of a failure, if it is asked and there is one
pub record Key : Type 0 where
  pub label : Label
  pub message : Option (List ℕ)

abbrev pub message_of : Outcome → Option (List ℕ)
message_of (outcome.Failed message) = message
message_of other = None

abbrev pub key_in : Entry → Key
key_in entry = record { label = entry.label; message = message_of entry.outcome }

-- the kind and the name alone
abbrev pub of_trial : Label → Key
of_trial label = record { label = label; message = None }

abbrev pub any_in : Entry → Key
any_in entry = of_trial entry.label

-- both have the same kind and name
abbrev pub same_label : Label → Label → Bool
same_label a b = bytes_eq a.kind b.kind && bytes_eq a.name b.name

abbrev pub same_key : Key → Key → Bool
same_key a b = option_eq bytes_eq a.message b.message && same_label a.label b.label

-- ---- as rows have them

-- the kind and the name that a row shows
abbrev pub label_in : Row → Label
label_in row = (entry_read row).label

abbrev pub key_read : Found → Key
key_read (Trial row) = any_in (entry_read row.now)
key_read (Failure row) = key_in (entry_read row.now)

abbrev pub is_same : Found → Found → Bool
is_same a b = same_key (key_read a) (key_read b)

pub same_laws : IsEquivalence is_same
same_laws =
    and_equiv (on_equiv (λ key. (key_read key).message) (options_equiv nat_list_eq_equiv))
    (and_equiv (on_equiv (λ key. (key_read key).label.kind) nat_list_eq_equiv)
    (on_equiv (λ key. (key_read key).label.name) nat_list_eq_equiv))

-- what a hasher is given
abbrev pub fed_key : Key → fed.HashWrites
fed_key key = fed.str key.label.kind ++ (fed.str key.label.name ++ fed.option fed.str key.message)

-- of all keys, the set has those of the trials with these kinds and names
abbrev pub HasTrials : {S : Type 0} → HashSet Found S → List Label → Type 0
HasTrials set labels = (key : Found) → contains is_same set key ≡ list_any (λ label. same_key (key_read key) (of_trial label)) labels
