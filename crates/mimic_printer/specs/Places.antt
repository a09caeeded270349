-- Which bytes are forbidden in which places. A text is its bytes in UTF-8.
use Rattle.std.specs.Prelude.{ℕ, ◌==◌, ◌&&◌, ◌||◌, not, nat_lt, if◌then◌else◌, Bool, true, false}
use Rattle.mimic_printer.specs.declared.place.Place.{Place}
use Rattle.mimic_printer.specs.declared.place.Place.TheVariants.{Content, Value, Html, Line, Terminal}

abbrev pub is_xml : Place → Bool
is_xml Content = true
is_xml Value = true
is_xml place = false

-- the place is in a document with markup
abbrev pub has_markup : Place → Bool
has_markup Line = false
has_markup Terminal = false
has_markup place = true

-- a quote can end the text there
abbrev pub has_quotes : Place → Bool
has_quotes Value = true
has_quotes Html = true
has_quotes place = false

-- readers get a tab and a line feed from there as they are (from a value they don't: XML 1.0, section 3.3.3)
abbrev pub has_breaks : Place → Bool
has_breaks Content = true
has_breaks Html = true
has_breaks place = false

-- a control character of ASCII
abbrev pub is_control : ℕ → Bool
is_control b = nat_lt b 32 || b == 127

-- the byte can't be written there as it is: it would be markup, or is a control character. XML has that with number 127 (section 2.2),
-- and takes a carriage return for a line end (section 2.11)
abbrev pub is_forbidden : Place → ℕ → Bool
is_forbidden place b =
    if b == 38 || b == 60 || b == 62 then has_markup place
    else (if b == 34 then has_quotes place
    else (if b == 9 || b == 10 then not (has_breaks place)
    else (if b == 127 then not (is_xml place)
    else nat_lt b 32)))

-- the byte is spelled by itself, wherever it is and whatever follows it
abbrev pub plain_byte : ℕ → Bool
plain_byte b = nat_lt 31 b && not (b == 38 || b == 60 || b == 62 || b == 34 || b == 92 || b == 127 || b == 194 || b == 226 || b == 239)
