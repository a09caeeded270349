-- Reading bytes that come in pieces: what is kept of them, and what is known of those that were read. Of public clauses only those of a tally and of a follower name these words.
use Rattle.std.specs.Prelude.{◌≡◌, ◌≢◌, codes, ◌⊎◌, ◌<◌, ℕ, Bool, true, false, List, [], ◌∷◌, ◌++◌, length, Option, Some, None}
use Rattle.std.specs.List.{AllByRecursion, concat}
use Rattle.mimic_printer.specs.Json.{Contents, Entry}
use Rattle.mimic_events.specs.declared.report.Row.{Row}
use Rattle.mimic_events.specs.declared.report.Totals.{Totals}
use Rattle.mimic_events.specs.declared.row_reader.RowReader.{RowReader}
use Rattle.mimic_events.specs.Contents.{Spells, entry_read, totals_of}
use Rattle.mimic_events.specs.Progress.{Fits, HasNoEnd, IsCounted, IsLine, Runs, State, Step, start, state_with, state_text}
use Rattle.mimic_events.specs.Reading.{Decodes}

-- all bytes that came, if these are the rows that have ended: the lines that were taken, and the rest
abbrev pub bytes_of : RowReader → List Entry → List ℕ
bytes_of r entries = state_text (state_with r.progress entries) ++ r.rest.items

-- what each line of a report begins with
abbrev pub line_front : List ℕ
line_front = codes "{ \"type\": \""

-- whatever follows it, the text doesn't begin with this front
abbrev pub NeverBegins : List ℕ → List ℕ → Type 0
NeverBegins front text = (more rest : List ℕ) → text ++ more ≢ front ++ rest

-- the text begins with a line that leads nowhere
pub record BeginsAstray (s : State) (text : List ℕ) : Type 0 where
  pub line : List ℕ
  pub more : List ℕ
  pub parts : text ≡ line ++ more
  pub whole : IsLine line
  pub nowhere : (t : State) → Step s line t → ⊥

-- no line of the rest can be taken: it has none, or its first one leads nowhere
abbrev pub IsUnread : Bool → State → List ℕ → Type 0
IsUnread false s rest = HasNoEnd rest
IsUnread true s rest = BeginsAstray s rest

-- lines at the front of the text lead from one state to the other, and the rest follows them
pub record Leads (from : State) (text : List ℕ) (to : State) (rest : List ℕ) : Type 0 where
  pub lines : List (List ℕ)
  pub each : AllByRecursion IsLine lines
  pub run : Runs from lines to
  pub parts : text ≡ concat lines ++ rest

-- whatever follows what was read, the state to which its front leads from the start comes after this one, or before it
abbrev pub IsOnlyWay : State → Type 0
IsOnlyWay s = (more : List ℕ) (t : State) (after : List ℕ) → Leads start (state_text s ++ more) t after
    → Leads s more t after ⊎ Leads t after s more

-- what is known between two pieces
pub record Known (s : State) (rest : List ℕ) (stuck : Bool) : Type 0 where
  pub fits : Fits s
  pub led : Leads start (state_text s) s []
  pub way : IsOnlyWay s
  pub unread : IsUnread stuck s rest

-- what is known of a reader if these are the rows that have ended
pub record IsSound (r : RowReader) (entries : List Entry) : Type 0 where
  pub counted : IsCounted r.progress entries
  pub known : Known (state_with r.progress entries) r.rest.items r.stuck

-- ---- pieces

-- the bytes are read, and end these rows
abbrev pub ReadsOn : RowReader → List ℕ → RowReader → List Entry → Type 0
ReadsOn old bytes new ended = (entries : List Entry) → IsSound old entries
    → IsSound new (entries ++ ended) × (bytes_of new (entries ++ ended) ≡ bytes_of old entries ++ bytes)

-- the front of the piece is read, and ends these rows; what is left of it follows
pub record ReadsFront (old : RowReader) (piece : List ℕ) (new : RowReader) (ended : List Entry) (left : List ℕ) : Type 0 where
  pub front : List ℕ
  pub parts : piece ≡ front ++ left
  pub read : ReadsOn old front new ended

-- a front of the piece is read that ends this row, and less is left
pub record ReadsRow (old : RowReader) (piece : List ℕ) (new : RowReader) (row : Row) (left : List ℕ) : Type 0 where
  pub read : ReadsFront old piece new (entry_read row ∷ []) left
  pub shorter : length left < length piece

-- a front of the piece is read that ends some rows
abbrev pub PassesRows : RowReader → List ℕ → RowReader → List ℕ → Type 0
PassesRows old piece new left = (ended : List Entry) × ReadsFront old piece new ended left

-- ---- the end

-- a report of these rows, with the numbers that belong to no row
abbrev pub report_with : List Entry → Totals → Contents
report_with entries totals = record {
  entries = entries;
  filtered_out = totals.counts.num_filtered_out;
  nanos = totals.nanos;
}

-- the bytes are the one report of these rows and these numbers, or no report
abbrev pub SumsUp : List ℕ → List Entry → Option Totals → Type 0
SumsUp bytes entries None = Decodes Spells bytes None
SumsUp bytes entries (Some totals) = Decodes Spells bytes (Some (report_with entries totals))
    × (totals ≡ totals_of (report_with entries totals))
