-- What holds of the spellings of all texts.
use Rattle.std.specs.Prelude.{◌≡◌, ℕ, ◌==◌, ◌&&◌, ◌||◌, not, nat_lt, if◌then◌else◌, Bool, true, false, List, [], ◌∷◌, ◌++◌, drop, codes, Option, Some, None}
use Rattle.std.specs.List.{AllByRecursion, concat, list_any}
use Rattle.std.specs.Str.{bytes_eq}
use Rattle.std.specs.Str.Parse.{digits_value}
use Rattle.mimic_printer.specs.Places.{has_markup, is_control, is_forbidden}
use Rattle.mimic_printer.specs.Escapes.{begins_number, escaped}
use Rattle.mimic_printer.specs.declared.place.Place.{Place}
use Rattle.mimic_printer.specs.declared.place.Place.TheVariants.{Content, Value, Html, Line, Terminal}

-- ---- the way back

-- the character of this number, if it has one byte or is a control character of two
abbrev pub character_at : ℕ → List ℕ
character_at n = if nat_lt n 128 then n ∷ [] else 194 ∷ n ∷ []

-- what a spelling of more than one byte stands for, without its last byte
abbrev pub character_of : List ℕ → List ℕ
character_of mark =
    if bytes_eq mark (codes "&amp") then 38 ∷ []
    else (if bytes_eq mark (codes "&lt") then 60 ∷ []
    else (if bytes_eq mark (codes "&gt") then 62 ∷ []
    else (if bytes_eq mark (codes "&quot") then 34 ∷ []
    else (if bytes_eq mark (codes "&#9") then 9 ∷ []
    else (if bytes_eq mark (codes "&#10") then 10 ∷ []
    else (if bytes_eq mark (codes "&#13") then 13 ∷ []
    else (if bytes_eq mark (codes "\\u{fffe") then 239 ∷ 191 ∷ 190 ∷ []
    else (if bytes_eq mark (codes "\\u{ffff") then 239 ∷ 191 ∷ 191 ∷ []
    else (if bytes_eq mark (codes "\\u{2028") then 226 ∷ 128 ∷ 168 ∷ []
    else (if bytes_eq mark (codes "\\u{2029") then 226 ∷ 128 ∷ 169 ∷ []
    else character_at (digits_value 16 (drop 3 mark))))))))))))

-- the byte begins such a spelling, if this follows it: `&`, in a place that has markup, or `\u{`
abbrev pub begins_mark : Place → ℕ → List ℕ → Bool
begins_mark place b rest = b == 38 && has_markup place || begins_number (b ∷ rest)

-- it ends one: `;` or `}`
abbrev pub ends_mark : ℕ → Bool
ends_mark b = b == 59 || b == 125

-- the text that has this spelling; `begun` is what came of a spelling that hasn't ended
unfoldable pub unescaped_after : Place → Option (List ℕ) → List ℕ → List ℕ
unescaped_after place begun [] = []
unescaped_after place None (b ∷ rest) = if begins_mark place b rest then unescaped_after place (Some (b ∷ [])) rest
    else b ∷ unescaped_after place None rest
unescaped_after place (Some mark) (b ∷ rest) = if ends_mark b then character_of mark ++ unescaped_after place None rest
    else unescaped_after place (Some (mark ++ b ∷ [])) rest

abbrev pub unescaped : Place → List ℕ → List ℕ
unescaped place text = unescaped_after place None text

-- ---- what is left

-- the entities that can be in a place
abbrev pub entities : Place → List (List ℕ)
entities Content = codes "&amp;" ∷ codes "&lt;" ∷ codes "&gt;" ∷ codes "&#13;" ∷ []
entities Value = codes "&amp;" ∷ codes "&lt;" ∷ codes "&gt;" ∷ codes "&quot;" ∷ codes "&#9;" ∷ codes "&#10;" ∷ codes "&#13;" ∷ []
entities Html = codes "&amp;" ∷ codes "&lt;" ∷ codes "&gt;" ∷ codes "&quot;" ∷ []
entities place = []

-- the part has nothing that is forbidden there, or is an entity
abbrev pub is_harmless : Place → List ℕ → Bool
is_harmless place part = not (list_any (is_forbidden place) part) || list_any (bytes_eq part) (entities place)

-- it is made of such parts
abbrev pub IsHarmless : Place → List ℕ → Type 0
IsHarmless place text = (parts : List (List ℕ)) × (text ≡ concat parts) × AllByRecursion (λ part. is_harmless place part ≡ true) parts

-- ---- laws

-- no control character of ASCII is left in the spellings of a place, so that a text stays in its line. Of the control characters of
-- two bytes, one of which begins an escape sequence as well, this says nothing: how they are spelled is in `escaped`
abbrev pub HasNoControl : Place → Type 0
HasNoControl place = (text : List ℕ) → list_any is_control (escaped place text) ≡ false

-- what holds of the spelling of every text: it can be unescaped, so that two texts never have the same; and it is harmless, so
-- that it begins, ends or hides no element
pub record EscapeLaws : Type 0 where
  pub unescapes : (place : Place) (text : List ℕ) → unescaped place (escaped place text) ≡ text
  pub no_markup : (place : Place) (text : List ℕ) → IsHarmless place (escaped place text)
  pub no_control_in_line : HasNoControl Line
  pub no_control_on_terminal : HasNoControl Terminal
