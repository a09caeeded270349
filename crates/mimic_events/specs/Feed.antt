-- What a feed is seen as, and the rows that have ended in a text, by the lines of the JSON report (our own).
use Rattle.std.specs.Prelude.{◌≡◌, ◌⊎◌, ℕ, ◌<◌, ◌≤◌, ◌^◌, Bool, true, false, List, [], ◌++◌, length, Option, None}
use Rattle.std.specs.List.{AllByRecursion, concat, flat_map}
use Rattle.mimic_printer.specs.Json.{Entry, FitsEntry, entry_lines, json_title}
use Rattle.mimic_events.specs.Reading.{Decodes}

-- the bytes that a feed was given, and whether it refused some since an allocation failed
pub record Fed : Type 0 where
  pub bytes : List ℕ
  pub failed : Bool

-- what was found of the bytes so far: the one value that they spell, if they spell one; and nothing after a refused piece
abbrev pub FindsSoFar : {V : Type 0} → (V → List ℕ → Type 0) → Fed → Option V → Type 0
FindsSoFar spells fed found = (fed.failed ≡ false → Decodes spells fed.bytes found) × (fed.failed ≡ true → found ≡ None)

-- the text begins with a title and the lines of these rows, no more than the title announces; whatever follows
pub record BeginsWith (text : List ℕ) (entries : List Entry) : Type 0 where
  pub announced : ℕ
  pub rest : List ℕ
  pub number : announced < 2 ^ 64
  pub within : length entries ≤ announced
  pub fits : AllByRecursion FitsEntry entries
  pub parts : text ≡ json_title announced ++ (concat (flat_map entry_lines entries) ++ rest)

-- the text begins with these rows, or there are none; and all other rows that it begins with are the first ones of these
pub record AreEnded (text : List ℕ) (entries : List Entry) : Type 0 where
  pub begun : (entries ≡ []) ⊎ BeginsWith text entries
  pub longest : (others : List Entry) → BeginsWith text others → (more : List Entry) × (entries ≡ others ++ more)
