-- Times as people say them (our own).
use Rattle.std.specs.Prelude.{ℕ, ◌+◌, ◌/◌, ◌%◌, nat_lt, if◌then◌else◌, List, ◌++◌, codes, decimal}

-- the number of units that is nearest to the nanoseconds, ties up
abbrev pub nearest : ℕ → ℕ → ℕ
nearest unit nanos = (nanos + unit / 2) / unit

-- two numbers, each with its unit
abbrev pub two_units : ℕ → List ℕ → ℕ → List ℕ → List ℕ
two_units great unit small small_unit = decimal great ++ (unit ++ (decimal small ++ small_unit))

-- a time to the nearest of its last unit: under a second in milliseconds, under two minutes in seconds with one decimal, under an hour in
-- minutes and seconds, and else in hours and minutes
unfoldable pub human_time : ℕ → List ℕ
human_time nanos =
    if nat_lt (nearest 1000000 nanos) 1000 then decimal (nearest 1000000 nanos) ++ codes " ms"
    else (if nat_lt (nearest 100000000 nanos) 1200
    then two_units (nearest 100000000 nanos / 10) (codes ".") (nearest 100000000 nanos % 10) (codes " s")
    else (if nat_lt (nearest 1000000000 nanos) 3600
    then two_units (nearest 1000000000 nanos / 60) (codes " min ") (nearest 1000000000 nanos % 60) (codes " s")
    else two_units (nearest 60000000000 nanos / 60) (codes " h ") (nearest 60000000000 nanos % 60) (codes " min")))
