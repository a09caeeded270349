-- The small texts that reports are made of, as bytes.
use Rattle.std.specs.Prelude.{ℕ, ◌+◌, ◌-◌, ◌/◌, ◌%◌, ◌==◌, ◌&&◌, List, [], ◌∷◌, ◌++◌, length, replicate, codes, filter, not, nat_lt, if◌then◌else◌}
use Rattle.std.specs.Str.{chars}

-- that many spaces
abbrev pub spaces : ℕ → List ℕ
spaces n = replicate n 32

-- the text, and then as many spaces as it has characters fewer than the width (the Rust crate's `{: <width$}`)
abbrev pub padded : ℕ → List ℕ → List ℕ
padded width text = text ++ spaces (width - length (chars text))

-- as many spaces as the digits are fewer than the width, and then the digits (the Rust crate's `{:>11}`)
abbrev pub right_aligned : ℕ → List ℕ → List ℕ
right_aligned width digits = spaces (width - length digits) ++ digits

-- a kind is in brackets and a space follows; an empty kind is left out (the Rust crate's)
abbrev pub kind_part : List ℕ → List ℕ
kind_part [] = []
kind_part (b ∷ bs) = codes "[" ++ ((b ∷ bs) ++ codes "] ")

-- the digits with a comma between two of them exactly if a multiple of three digits follows (the Rust crate's)
abbrev pub grouped : List ℕ → List ℕ
grouped [] = []
grouped (d ∷ ds) = if nat_lt 0 (length ds) && (length ds % 3 == 0) then d ∷ 44 ∷ grouped ds else d ∷ grouped ds

-- the text with its commas left out
abbrev pub without_commas : List ℕ → List ℕ
without_commas = filter (λ b. not (b == 44))

-- the number of hundredths of a second that is nearest to the nanoseconds, ties up (our own: no floats)
abbrev pub nearest_hundredths : ℕ → ℕ
nearest_hundredths nanos = (nanos + 5000000) / 10000000

-- a number below 100 in two digits
abbrev pub two_digits : ℕ → List ℕ
two_digits n = (48 + n / 10) ∷ (48 + n % 10) ∷ []
