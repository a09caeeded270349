-- Pieces, of which texts are put together.
use Rattle.std.specs.Prelude.{ℕ, ◌==◌, if◌then◌else◌, List, [], ◌∷◌, ◌++◌, codes, decimal}
use Rattle.std.specs.List.{flat_map}
use Rattle.mimic_printer.specs.declared.piece.Piece.{Piece}
use Rattle.mimic_printer.specs.declared.piece.Piece.TheVariants.{Text, Number, Long, TwoDigits, Spaces, Grouped, Aligned, Seconds, Time, Json, Kind, Escaped, FirstLine, Bracketed, PlainKind}
use Rattle.mimic_printer.specs.declared.place.Place.{Place}
use Rattle.mimic_printer.specs.Escapes.{escaped}
use Rattle.mimic_printer.specs.Json.{time_field}
use Rattle.mimic_trial.specs.Escape.{escaped as json_escaped}
use Rattle.mimic_trial.specs.Seconds.{exact_seconds}
use Rattle.mimic_trial.specs.Text.{spaces, two_digits, right_aligned, grouped, kind_part}

-- what is between a name and the quote behind the kind in JSON, and nothing for an empty kind
abbrev pub kind_text : List ℕ → List ℕ
kind_text [] = []
kind_text (b ∷ bs) = codes "\", \"kind\": \"" ++ json_escaped (b ∷ bs)

-- the text up to the first line end
unfoldable pub first_line : List ℕ → List ℕ
first_line [] = []
first_line (b ∷ rest) = if b == 10 then [] else b ∷ first_line rest

-- a kind in a place: brackets around it and a space after them, and nothing for an empty kind
abbrev pub bracketed : Place → List ℕ → List ℕ
bracketed place [] = []
bracketed place (b ∷ kind) = codes "[" ++ (escaped place (b ∷ kind) ++ codes "] ")

-- the text that a piece is for
abbrev pub piece_text : Piece → List ℕ
piece_text (Text t) = t.now
piece_text (Number n) = decimal n
piece_text (Long n) = decimal n.now
piece_text (TwoDigits n) = two_digits n
piece_text (Spaces n) = spaces n
piece_text (Grouped n) = grouped (decimal n)
piece_text (Aligned n width) = right_aligned width (grouped (decimal n))
piece_text (Seconds n) = exact_seconds n
piece_text (Time nanos) = time_field nanos
piece_text (Json t) = json_escaped t.now
piece_text (Kind k) = kind_text k.now
piece_text (Escaped place t) = escaped place t.now
piece_text (FirstLine place t) = escaped place (first_line t.now)
piece_text (Bracketed place kind) = bracketed place kind.now
piece_text (PlainKind kind) = kind_part kind.now

-- their texts, one after another
abbrev pub pieces_text : List Piece → List ℕ
pieces_text pieces = flat_map piece_text pieces
