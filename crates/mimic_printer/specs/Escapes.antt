-- How texts are spelled in places that forbid some characters. A text is its bytes in UTF-8.
use Rattle.std.specs.Prelude.{◌≡◌, ℕ, zero, suc, ◌/◌, ◌%◌, ◌<◌, ◌≤◌, ◌==◌, ◌&&◌, not, nat_lt, length, take, drop, if◌then◌else◌, Bool, true, false, List, [], ◌∷◌, ◌++◌, codes, slice_index}
use Rattle.std.specs.Char.{digit_char}
use Rattle.std.specs.List.{concat}
use Rattle.mimic_printer.specs.Places.{has_markup, is_forbidden, is_xml}
use Rattle.mimic_printer.specs.declared.place.Place.{Place}
use Rattle.mimic_printer.specs.declared.place.Place.TheVariants.{Line}
use Rattle.mimic_printer.specs.declared.spelling.Spelling.{Spelling}
use Rattle.mimic_printer.specs.declared.escape.Escape.{Escape}

-- ---- characters

-- what stands for a character that a place has no spelling for: its number in hexadecimal digits (our own)
abbrev pub numbered : List ℕ → List ℕ
numbered digits = concat (codes "\\u{" ∷ digits ∷ codes "}" ∷ [])

-- a number below 256 in small hexadecimal digits, without a leading zero
abbrev pub hexadecimal : ℕ → List ℕ
hexadecimal n = if nat_lt n 16 then digit_char n ∷ [] else digit_char (n / 16) ∷ digit_char (n % 16) ∷ []

-- how a byte is spelled that can't be written as it is: by an entity, if it is markup; white space by its number in XML; else as above
abbrev pub spelled : Place → ℕ → List ℕ
spelled place b =
    if b == 38 then codes "&amp;"
    else (if b == 60 then codes "&lt;"
    else (if b == 62 then codes "&gt;"
    else (if b == 34 then codes "&quot;"
    else (if b == 9 && is_xml place then codes "&#9;"
    else (if b == 10 && is_xml place then codes "&#10;"
    else (if b == 13 && is_xml place then codes "&#13;"
    else numbered (hexadecimal b)))))))

-- the spelling of each byte
abbrev pub spelled_byte : Place → ℕ → List ℕ
spelled_byte place b = if is_forbidden place b then spelled place b else b ∷ []

-- ---- the front of a text

-- the text begins with these three bytes
abbrev pub begins_with : ℕ → ℕ → ℕ → List ℕ → Bool
begins_with b c d (x ∷ y ∷ z ∷ rest) = x == b && y == c && z == d
begins_with b c d text = false

-- it begins with `\u{`
abbrev pub begins_number : List ℕ → Bool
begins_number text = begins_with 92 117 123 text

-- it begins with a control character of two bytes: U+0080 to U+009F
abbrev pub begins_control : List ℕ → Bool
begins_control (x ∷ y ∷ rest) = x == 194 && not (nat_lt y 128) && nat_lt y 160
begins_control text = false

abbrev pub is_line : Place → Bool
is_line Line = true
is_line place = false

-- how the front of a text is spelled, and how many bytes it has behind the first. By their numbers are spelled: a backslash that would be taken
-- for the beginning of a number, in a document U+FFFE and U+FFFF, which XML doesn't have (section 2.2) and HTML calls noncharacters,
-- in a line the two characters that end one, and control characters of two bytes, whose number is the second byte
abbrev pub front : Place → List ℕ → List ℕ × ℕ
front place text =
    if begins_number text then (numbered (codes "5c"), 0)
    else (if begins_with 239 191 190 text && has_markup place then (numbered (codes "fffe"), 2)
    else (if begins_with 239 191 191 text && has_markup place then (numbered (codes "ffff"), 2)
    else (if begins_with 226 128 168 text && is_line place then (numbered (codes "2028"), 2)
    else (if begins_with 226 128 169 text && is_line place then (numbered (codes "2029"), 2)
    else (if begins_control text && not (is_xml place) then (numbered (hexadecimal (slice_index text 1)), 1)
    else (spelled_byte place (slice_index text 0), 0))))))

-- ---- the whole text

-- the spelling of a text of which the first `done` bytes were spelled before
unfoldable pub escaped_after : ℕ → Place → List ℕ → List ℕ
escaped_after done place [] = []
escaped_after zero place (b ∷ rest) = (front place (b ∷ rest)).0 ++ escaped_after (front place (b ∷ rest)).1 place rest
escaped_after (suc done) place (b ∷ rest) = escaped_after done place rest

-- the spelling of a text
abbrev pub escaped : Place → List ℕ → List ℕ
escaped place text = escaped_after 0 place text

-- ---- how it is found

-- the spelling has these bytes
pub record IsSpelling (s : Spelling) (text : List ℕ) : Type 0 where
  pub short : s.len ≤ 8
  pub bytes : take s.len s.bytes ≡ text

-- the text up to it is spelled by itself, then comes its spelling, and then that of what follows it
pub record IsNextEscape (place : Place) (text : List ℕ) (e : Escape) : Type 0 where
  pub short : e.spelling.len ≤ 8
  pub some : e.at < e.end
  pub within : e.end ≤ length text
  pub whole : escaped place text ≡ take e.at text ++ (take e.spelling.len e.spelling.bytes ++ escaped place (drop e.end text))
