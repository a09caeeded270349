-- What a tally has read of a report, and what it returns: numbers, and no rows (our own).
use Rattle.std.specs.Prelude.{◌≡◌, ◌<◌, ◌^◌, ℕ, List, ◌++◌, length}
use Rattle.mimic_printer.specs.Json.{Contents, Entry}
use Rattle.mimic_events.specs.declared.report.Totals.{Totals}
use Rattle.mimic_events.specs.declared.row_reader.RowReader.{RowReader}
use Rattle.mimic_events.specs.declared.tally.Tally.{Tally}
use Rattle.mimic_events.specs.Contents.{Spells, totals_of}
use Rattle.mimic_events.specs.Readers.{IsSound, bytes_of}
use Rattle.mimic_events.specs.SoFar.{BeginsWithTitle, IsFirstWrong}

-- both texts spell the same values, or neither spells any
abbrev pub SpellSame : {V : Type 0} → (V → List ℕ → Type 0) → List ℕ → List ℕ → Type 0
SpellSame {V} spells a b = (v : V) → (spells v a → spells v b) × (spells v b → spells v a)

-- the text is the report of these contents, of fewer than 2^64 rows
abbrev pub SpellsFew : Contents → List ℕ → Type 0
SpellsFew contents text = (length contents.entries < 2 ^ 64) × Spells contents text

-- whatever follows both texts, they have the same title, the same first wrong line and are the same report, or have none and are none
pub record IsAlike (a b : List ℕ) : Type 0 where
  pub titles : (more : List ℕ) → SpellSame BeginsWithTitle (a ++ more) (b ++ more)
  pub wrong : (more : List ℕ) → SpellSame IsFirstWrong (a ++ more) (b ++ more)
  pub reports : (more : List ℕ) → SpellSame SpellsFew (a ++ more) (b ++ more)

-- the reader was fed these bytes, or some that are alike: for some rows they are the lines that it took, and the rest that it keeps
pub record HasFed (reader : RowReader) (bytes : List ℕ) : Type 0 where
  pub entries : List Entry
  pub sound : IsSound reader entries
  pub alike : IsAlike bytes (bytes_of reader entries)

-- the tally was fed these bytes, of which it may have forgotten those that change nothing more
pub record HasRead (tally : Tally) (bytes : List ℕ) : Type 0 where
  pub fed : HasFed tally.reader bytes
  pub taken : tally.taken ≡ length bytes

-- the bytes are a report that says these numbers
pub record SpellsTotals (totals : Totals) (bytes : List ℕ) : Type 0 where
  pub contents : Contents
  pub spelled : Spells contents bytes
  pub numbers : totals ≡ totals_of contents

-- what was read stays, but for bytes that change nothing more
abbrev pub Forgets : RowReader → RowReader → Type 0
Forgets old new = (entries : List Entry) → IsSound old entries
    → IsSound new entries × IsAlike (bytes_of old entries) (bytes_of new entries)
