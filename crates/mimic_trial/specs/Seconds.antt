-- Nanoseconds as seconds in exact decimal (our own: no floats).
use Rattle.std.specs.Prelude.{◌≡◌, ◌≢◌, ℕ, zero, suc, ◌+◌, ◌-◌, ◌*◌, ◌/◌, ◌%◌, ◌^◌, ◌≤◌, ◌⊎◌, ◌==◌, if◌then◌else◌, List, [], ◌∷◌, ◌++◌, length, slice_index, decimal}
use Rattle.std.specs.Str.Parse.{IsNumeral, digits_value}

-- these are one to nine digits, the last of them is not 0, and after a point they are worth this many nanoseconds
pub record IsFraction (nanos : ℕ) (digits : List ℕ) : Type 0 where
  pub numeral : IsNumeral 10 digits
  pub short : length digits ≤ 9
  pub last : slice_index digits (length digits - 1) ≢ 48
  pub value : nanos ≡ digits_value 10 digits * 10 ^ (9 - length digits)

-- what follows the whole seconds: nothing, or a point and such digits
abbrev pub IsRest : ℕ → List ℕ → Type 0
IsRest nanos text = ((text ≡ []) × (nanos ≡ 0)) ⊎ ((digits : List ℕ) × (text ≡ 46 ∷ digits) × IsFraction nanos digits)

-- the text is the nanoseconds in seconds: the whole seconds in decimal, and then the rest
pub record IsExactSeconds (nanos : ℕ) (text : List ℕ) : Type 0 where
  pub whole : ℕ
  pub fraction : ℕ
  pub rest : List ℕ
  pub parts : text ≡ decimal whole ++ rest
  pub spelled : IsRest fraction rest
  pub value : nanos ≡ whole * 10 ^ 9 + fraction

-- the first k digits of a number below 10 ^ k with its leading zeros, up to the last that is not 0
unfoldable pub fraction_digits : ℕ → ℕ → List ℕ
fraction_digits zero rest = []
fraction_digits (suc k) rest = if rest == 0 then [] else (48 + rest / 10 ^ k) ∷ fraction_digits k (rest % 10 ^ k)

-- the one text that is the nanoseconds in seconds (`text::exact_seconds` has the law that it is, and that there is no other)
unfoldable pub exact_seconds : ℕ → List ℕ
exact_seconds nanos = decimal (nanos / 10 ^ 9)
    ++ (if nanos % 10 ^ 9 == 0 then [] else 46 ∷ fraction_digits 9 (nanos % 10 ^ 9))
