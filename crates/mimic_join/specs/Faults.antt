-- Which reader, and which line of it, a fault is in.
use Rattle.std.specs.Prelude.{ℕ, ◌+◌, ◌*◌, Option, Some, None}
use Rattle.std.specs.Option.{option_and_then, option_map}
use Rattle.mimic_join.specs.declared.faults.JoinFault.{JoinFault}
use Rattle.mimic_join.specs.declared.faults.JoinFault.TheVariants as join
use Rattle.mimic_join.specs.declared.join.Refusal.{Refusal}
use Rattle.mimic_join.specs.declared.join.Refusal.TheVariants.{Number, Uneven, NamedTwice, TooMany}
use Rattle.mimic_events.specs.declared.input.ReadFault.{ReadFault}
use Rattle.mimic_events.specs.declared.input.ReadFault.TheVariants as read

-- the line that announces the row of this place: the title comes first, and each row has two lines
abbrev pub row_line : ℕ → ℕ
row_line row = 2 * row + 2

-- the line that is wrong, if one is
abbrev pub wrong_line : ReadFault → Option ℕ
wrong_line read.OutOfMemory = None
wrong_line (read.Input error) = None
wrong_line (read.WrongLine number) = Some number
wrong_line read.Cut = None

-- the place of the report that is refused, if it is one, and the line of its row, if that is why
abbrev pub refused_at : Refusal → Option (ℕ × Option ℕ)
refused_at (Number reports shards) = None
refused_at (Uneven place) = Some (place, None)
refused_at (NamedTwice place row) = Some (place, Some (row_line row))
refused_at TooMany = None

-- the place of the reader that the fault is in, if it is one, and the line, if it is one
abbrev pub fault_at : JoinFault → Option (ℕ × Option ℕ)
fault_at join.OutOfMemory = None
fault_at (join.Input place fault) = Some (place, wrong_line fault)
fault_at (join.Refused refusal) = refused_at refusal
fault_at (join.Write error) = None

-- the place of the reader
abbrev pub place_of : JoinFault → Option ℕ
place_of fault = option_map (λ at. at.0) (fault_at fault)

-- the line of the reader
abbrev pub line_of : JoinFault → Option ℕ
line_of fault = option_and_then (λ at. at.1) (fault_at fault)
