-- What an input gives that is to be one report.
use Rattle.std.specs.Prelude.{◌≡◌, ◌≢◌, ℕ, ◌≤◌, List, length, take, Option, IfSome, ⊤}
use Rattle.std.specs.Io.KnownBytes.{Consumes, IsAtEnd, Keeps}
use Rattle.std.specs.IoError.{error_kind}
use Rattle.std.specs.declared.io.ErrorKind.TheVariants as kind
use Rattle.mimic_printer.specs.Json.{Contents}
use Rattle.mimic_events.specs.Contents.{Spells, contents_read}
use Rattle.mimic_events.specs.SoFar.{IsFirstWrong}
use Rattle.mimic_events.specs.declared.report.Report.{Report}
use Rattle.mimic_events.specs.declared.input.ReadFault.{ReadFault}
use Rattle.mimic_events.specs.declared.input.ReadFault.TheVariants as read

-- the input's bytes, if they are known, are this report
abbrev pub IsReportIn : Option (List ℕ) → Report → Type 0
IsReportIn input report = IfSome input (Spells (contents_read report))

-- the bytes are no report, and no ended line of theirs is wrong
pub record IsCut (bytes : List ℕ) : Type 0 where
  pub none : (contents : Contents) → ¬ Spells contents bytes
  pub right : (number : ℕ) → ¬ IsFirstWrong number bytes

-- why the input, if its bytes are known, gives no report
abbrev pub GivesNone : Option (List ℕ) → ReadFault → Type 0
GivesNone input read.OutOfMemory = ⊤
GivesNone input (read.Input error) = ⊤
GivesNone input (read.WrongLine number) = IfSome input (IsFirstWrong number)
GivesNone input read.Cut = IfSome input IsCut

-- ---- pieces

-- `count` bytes were read to the front of the room; `count` is 0 only at the end of the input
pub record IsPiece (before after : Option (List ℕ)) (room : List ℕ) (count : ℕ) : Type 0 where
  pub within : count ≤ length room
  pub gone : Consumes before after (take count room)
  pub last : count ≡ 0 → IsAtEnd after

-- the reader has no more, or there is no memory
abbrev pub IsOfInput : ReadFault → Type 0
IsOfInput read.OutOfMemory = ⊤
IsOfInput (read.Input error) = ⊤
IsOfInput (read.WrongLine number) = ⊥
IsOfInput read.Cut = ⊥

-- the fault is of the input or the memory, and nothing was read
abbrev pub HasFailed : Option (List ℕ) → Option (List ℕ) → ReadFault → Type 0
HasFailed before after fault = IsOfInput fault × Keeps before after

-- the fault is no interruption, since a read that was interrupted is tried again
abbrev pub IsNoInterruption : ReadFault → Type 0
IsNoInterruption (read.Input error) = error_kind error ≢ kind.Interrupted
IsNoInterruption fault = ⊤
