-- An object of texts and numbers, as another reader of JSON has it.
use Rattle.std.specs.Prelude.{◌≡◌, ◌≢◌, None, Some, decimal, ℕ, ◌^◌, ◌/◌, ◌%◌, ◌==◌, false, List, [], ◌∷◌, if◌then◌else◌, ⊤}
use Rattle.std.specs.List.{AllByRecursion}
use Rattle.std.specs.Float.{binary64}
use Rattle.std.specs.Float.Ieee.{round}
use Rattle.json.specs.Json as json
use Rattle.mimic_trial.specs.Seconds.{exact_seconds}
use Rattle.serde_json.specs.Find.{get}
use Rattle.serde_json.specs.Data.{Num, unsigned, float, Data, number, string, object, Members, no_members, put}

-- what is under a key: a text, a number, or nanoseconds, which are shown in seconds (our own)
pub data Scalar : Type 0 where
  text : List ℕ → Scalar
  count : ℕ → Scalar
  seconds : ℕ → Scalar

-- a key and what is under it
abbrev pub Field : Type 0
Field = List ℕ × Scalar

-- the seconds that these nanoseconds are: a whole number, or the float nearest to the quotient
abbrev pub seconds_number : ℕ → Num
seconds_number nanos = if nanos % 10 ^ 9 == 0 then unsigned (nanos / 10 ^ 9)
    else float (round binary64 false nanos (10 ^ 9))

-- what it is in `serde_json`
abbrev pub data_of : Scalar → Data
data_of (text s) = string s
data_of (count n) = number (unsigned n)
data_of (seconds n) = number (seconds_number n)

-- the members, with these put in one after another; `put` keeps them by key
abbrev pub with_fields : List Field → Members → Members
with_fields [] found = found
with_fields (f ∷ fs) found = with_fields fs (put f.0 (data_of f.1) found)

-- the object of these fields and no other
abbrev pub object_of : List Field → Data
object_of fields = object (with_fields fields no_members)

-- ---- the same before `serde_json` sorts it: the members in the order of the text, each number as it is spelled

-- what it is as a value of JSON
abbrev pub json_of : Scalar → json.Json
json_of (text s) = json.string s
json_of (count n) = json.number (decimal n)
json_of (seconds n) = json.number (exact_seconds n)

-- the members of an object, in the order of the fields
abbrev pub json_members : List Field → json.Members
json_members [] = json.no_members
json_members (f ∷ fs) = json.member f.0 (json_of f.1) (json_members fs)

-- ---- keys

-- no field has this key
abbrev pub IsOtherKey : List ℕ → List Field → Type 0
IsOtherKey key fields = AllByRecursion (λ f. key ≢ f.0) fields

-- no two fields have the same key
abbrev pub HaveOwnKeys : List Field → Type 0
HaveOwnKeys [] = ⊤
HaveOwnKeys (f ∷ fs) = IsOtherKey f.0 fs × HaveOwnKeys fs

-- under each key there is what the field says, and there is nothing under any other key
pub record HasExactly (d : Data) (fields : List Field) : Type 0 where
  pub each : AllByRecursion (λ f. get f.0 d ≡ Some (data_of f.1)) fields
  pub others : (key : List ℕ) → IsOtherKey key fields → get key d ≡ None
