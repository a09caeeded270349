-- Ids of rows, which a link to a page can name (our own). A browser decodes `%` in a link before it looks for the id, so that ids have
-- none.
use Rattle.std.specs.Prelude.{◌≡◌, ◌<◌, ℕ, ◌/◌, ◌%◌, ◌==◌, ◌&&◌, ◌||◌, nat_lt, if◌then◌else◌, Bool, true, List, [], ◌∷◌, codes}
use Rattle.std.specs.Char.{digit_char}
use Rattle.std.specs.List.{AllByRecursion, concat, flat_map}
use Rattle.mimic_printer.specs.Row.{Label}

-- the byte is in an id as it is: a small or capital letter, a digit or a colon, or `-`, `.` or `_`
abbrev pub stays : ℕ → Bool
stays b = nat_lt 96 b && nat_lt b 123 || nat_lt 64 b && nat_lt b 91 || nat_lt 47 b && nat_lt b 59 || b == 45 || b == 46 || b == 95

-- how a byte is spelled in an id: another one by `~` and its number in two hexadecimal digits
abbrev pub id_byte : ℕ → List ℕ
id_byte b = if stays b then b ∷ [] else 126 ∷ digit_char (b / 16) ∷ digit_char (b % 16) ∷ []

-- how a text is spelled in an id
unfoldable pub id_part : List ℕ → List ℕ
id_part text = flat_map id_byte text

-- the id of a row: its kind, a slash and its name
abbrev pub id_text : Label → List ℕ
id_text label = concat (id_part label.kind ∷ codes "/" ∷ id_part label.name ∷ [])

-- each byte is in an id as it is
abbrev pub StayAll : List ℕ → Type 0
StayAll text = AllByRecursion (λ b. stays b ≡ true) text

-- ---- laws

-- the text has bytes alone
abbrev pub AreBytes : List ℕ → Type 0
AreBytes text = AllByRecursion (λ b. b < 256) text

-- all that is in ids: what is spelled by itself, `~` and the slash
abbrev pub is_in_ids : ℕ → Bool
is_in_ids b = stays b || b == 126 || b == 47

-- what holds of the ids of all rows: no two kinds and names have the same, and they are neither markup nor changed in a link
pub record IdLaws : Type 0 where
  pub differ : (a b : Label) → id_text a ≡ id_text b → a ≡ b
  pub harmless : (label : Label) → AreBytes label.kind → AreBytes label.name → AllByRecursion (λ b. is_in_ids b ≡ true) (id_text label)
