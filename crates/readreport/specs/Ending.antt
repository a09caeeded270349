-- How the process ends.
use Rattle.std.specs.Prelude.{ℕ, List, Option}
use Rattle.mimic_events.specs.Outputs.{Ended}
use Rattle.readreport.specs.declared.machine.Status.{Status}

-- the number that a process ends with if its `main` returns this
abbrev pub number_of : Status → ℕ
number_of status = status.number

-- a run over some input and outputs ends with the status
abbrev pub EndsSomehow : ℕ → Type 0
EndsSomehow status = (input out out_got err err_got : Option (List ℕ)) × Ended input out out_got err err_got status
