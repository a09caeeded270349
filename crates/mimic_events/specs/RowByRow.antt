-- How the rows of a report come from an input.
use Rattle.std.specs.Prelude.{ℕ, ◌-◌, ◌<◌, ◌≤◌, List, ◌++◌, length, take, drop, Option, ⊤}
use Rattle.std.specs.Io.KnownBytes.{Consumes}
use Rattle.mimic_printer.specs.Json.{Entry}
use Rattle.mimic_events.specs.Follower.{HasFollowed}
use Rattle.mimic_events.specs.declared.input.ReadFault.{ReadFault}
use Rattle.mimic_events.specs.declared.input.ReadFault.TheVariants as read
use Rattle.mimic_events.specs.declared.rows.InputRows.{InputRows}
use Rattle.mimic_events.specs.Readings.{IsOver}

-- the places are in the piece, which has room
pub record IsReady {I : Type 0} (r : InputRows I) : Type 0 where
  pub order : r.from ≤ r.to
  pub within : r.to ≤ length r.piece.items
  pub room : 0 < length r.piece.items

module _ {I : Type 0} (remaining : I → Option (List ℕ)) where
  -- what was read and not followed yet
  abbrev pub pending : InputRows I → List ℕ
  pending r = take (r.to - r.from) (drop r.from r.piece.items)

  -- since the input was at its start, these rows have come
  pub record HasCome (start : Option (List ℕ)) (r : InputRows I) (entries : List Entry) : Type 0 where
    pub bytes : List ℕ
    pub followed : HasFollowed r.follower bytes entries
    pub gone : Consumes start (remaining r.input) (bytes ++ pending r)

  -- these are all rows: the input is at its end, or a line that was read is wrong
  pub record HasEnded (start : Option (List ℕ)) (r : InputRows I) (entries : List Entry) : Type 0 where
    pub bytes : List ℕ
    pub followed : HasFollowed r.follower bytes entries
    pub gone : Consumes start (remaining r.input) bytes
    pub last : IsOver (remaining r.input) bytes

  -- no row is lost with a fault of the reader: the next call reads on from where this one was
  abbrev pub ReadsOn : InputRows I → InputRows I → ReadFault → Type 0
  ReadsOn old new read.OutOfMemory = ⊤
  ReadsOn old new (read.Input error) = IsReady new
      × ((start : Option (List ℕ)) (entries : List Entry) → HasCome start old entries → HasCome start new entries)
  ReadsOn old new (read.WrongLine number) = ⊥
  ReadsOn old new read.Cut = ⊥
