-- The trials that took longest, as they are printed (our own).
use Rattle.std.specs.Prelude.{◌≡◌, ℕ, ◌≤◌, ◌==◌, List, [], ◌∷◌, ◌++◌, AllPairs, codes, filter, map, string_bytes, take, IsPermutation, Option, None, Some, Result, Ok, Err}
use Rattle.std.specs.List.{concat, flat_map}
use Rattle.mimic_printer.specs.Escapes.{escaped}
use Rattle.mimic_printer.specs.Json.{Entry}
use Rattle.mimic_printer.specs.Piece.{bracketed}
use Rattle.mimic_printer.specs.Row.{Label}
use Rattle.mimic_printer.specs.Sink.{Put, Shown, Stopped}
use Rattle.mimic_printer.specs.declared.place.Place.TheVariants.{Line}
use Rattle.mimic_printer.specs.declared.sink.OutputFault.{OutputFault}
use Rattle.mimic_printer.specs.declared.sink.OutputFault.TheVariants.{OutOfMemory, Write}
use Rattle.mimic_reports.specs.Seconds.{rounded_seconds}
use Rattle.mimic_reports.specs.declared.slowest.Slowest.{Slowest}
use Rattle.mimic_reports.specs.declared.slowest.TimedRow.{TimedRow}

-- ---- rows with a time

-- a kind and a name, and the nanoseconds that the trial took
pub record Timed : Type 0 where
  pub label : Label
  pub nanos : ℕ

abbrev pub timed_with : Label → Option ℕ → List Timed
timed_with label None = []
timed_with label (Some nanos) = record { label = label; nanos = nanos } ∷ []

-- the entry, if it has a time
abbrev pub timed_in : Entry → List Timed
timed_in entry = timed_with entry.label entry.nanos

-- those that have a time, in their order
abbrev pub timed_among : List Entry → List Timed
timed_among entries = flat_map timed_in entries

-- ---- their order

-- the same rows, slowest first, and equal times in the order that they had
pub record IsSlowestFirst (rows ordered : List Timed) : Type 0 where
  pub same : IsPermutation rows ordered
  pub falling : AllPairs (λ row later. later.nanos ≤ row.nanos) ordered
  pub stable : (nanos : ℕ) → filter (λ row. nanos == row.nanos) ordered ≡ filter (λ row. nanos == row.nanos) rows

-- whatever rows follow, the slowest `count` of all are the slowest `count` of those that are kept and these
pub record IsEnough (count : ℕ) (rows kept : List Timed) : Type 0 where
  pub same : (later ordered : List Timed) → IsSlowestFirst (kept ++ later) ordered
      → (all : List Timed) × IsSlowestFirst (rows ++ later) all × (take count all ≡ take count ordered)

abbrev pub timed_read : TimedRow → Timed
timed_read row = record { label = record { kind = string_bytes row.kind; name = string_bytes row.name }; nanos = row.nanos }

-- it has the slowest of these rows, as many as it was made for
abbrev pub HasSlowest : Slowest → List Timed → Type 0
HasSlowest slowest rows = IsEnough slowest.count rows (map timed_read slowest.rows.items)

-- ---- text

-- the line of a row: its time in seconds, to the nearest thousandth, and its kind and its name, in which no character ends the line
unfoldable pub line_text : Timed → List ℕ
line_text row = concat (rounded_seconds row.nanos ∷ codes "  " ∷ bracketed Line row.label.kind
    ∷ escaped Line row.label.name ∷ codes "\n" ∷ [])

-- the lines of the first `count` rows
abbrev pub lines_text : ℕ → List Timed → List ℕ
lines_text count rows = flat_map line_text (take count rows)

-- ---- what is left

-- without memory nothing was written, and after a write fault a beginning of the lines
abbrev pub SlowestLeftBy : ℕ → List Timed → Shown → Shown → OutputFault → Type 0
SlowestLeftBy count rows old new OutOfMemory = new ≡ old
SlowestLeftBy count rows old new (Write fault) = (ordered : List Timed) × IsSlowestFirst rows ordered
    × Stopped old new (lines_text count ordered)

-- with `Ok` the lines of the slowest rows were written
abbrev pub LeavesSlowest : ℕ → List Timed → Shown → Shown → Result (Unit {0}) OutputFault → Type 0
LeavesSlowest count rows old new (Ok done) = (ordered : List Timed) × IsSlowestFirst rows ordered
    × Put old new (lines_text count ordered)
LeavesSlowest count rows old new (Err fault) = SlowestLeftBy count rows old new fault
