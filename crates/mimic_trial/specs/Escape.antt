-- How texts are written between the quotes of a JSON string, in one spelling. A text is its bytes in UTF-8.
use Rattle.std.specs.Prelude.{◌≡◌, ◌≢◌, ◌<◌, ℕ, ◌/◌, ◌%◌, ◌==◌, nat_lt, if◌then◌else◌, List, [], ◌∷◌, encode_utf8, encode_utf8_all}
use Rattle.std.specs.Char.{digit_char}
use Rattle.std.specs.List.{AllByRecursion, flat_map}

-- how a byte is spelled: by a backslash and a letter or the character itself, if RFC 8259, section 7, has such a spelling;
-- else by `\u00` and two digits, if it is below 32; and else by itself. Among the spellings of the RFC these are our own
-- choice, and so are small hexadecimal digits
abbrev pub escape : ℕ → List ℕ
escape b =
    if b == 34 then 92 ∷ 34 ∷ []
    else (if b == 92 then 92 ∷ 92 ∷ []
    else (if b == 8 then 92 ∷ 98 ∷ []
    else (if b == 9 then 92 ∷ 116 ∷ []
    else (if b == 10 then 92 ∷ 110 ∷ []
    else (if b == 12 then 92 ∷ 102 ∷ []
    else (if b == 13 then 92 ∷ 114 ∷ []
    else (if nat_lt b 32 then 92 ∷ 117 ∷ 48 ∷ 48 ∷ digit_char (b / 16) ∷ digit_char (b % 16) ∷ []
    else b ∷ [])))))))

-- a text, each byte by its spelling
unfoldable pub escaped : List ℕ → List ℕ
escaped text = flat_map escape text

-- each byte stands for itself
abbrev pub ArePlain : List ℕ → Type 0
ArePlain text = AllByRecursion (λ b. escape b ≡ b ∷ []) text

-- the byte is a character by itself, and is spelled otherwise
abbrev pub NeedsEscape : ℕ → Type 0
NeedsEscape b = (b < 128) × (escape b ≢ b ∷ [])

-- the spelling of a character: that of its byte, and past ASCII the character itself (RFC 8259, section 7)
abbrev pub escape_char : ℕ → List ℕ
escape_char c = if nat_lt c 128 then escape c else encode_utf8 c

-- the law of escapes: to escape a text byte by byte is to escape its characters one by one
abbrev pub EscapesCharacters : Type 0
EscapesCharacters = (characters : List ℕ) → escaped (encode_utf8_all characters) ≡ flat_map escape_char characters
