-- What is printed of a report and of a fault: the lines, and what the outputs have got with each exit status.
use Rattle.std.specs.Prelude.{◌≡◌, ◌⊎◌, ℕ, List, [], ◌∷◌, ◌++◌, length, codes, decimal, Option, IfSome, Result, MatchResult, ⊤}
use Rattle.std.specs.List.{concat}
use Rattle.std.specs.Io.KnownBytes.{Appends, Keeps}
use Rattle.mimic_trial.specs.declared.outcome.Conclusion.{Conclusion}
use Rattle.mimic_printer.specs.Json.{Contents, IsJsonReport, conclusion_of}
use Rattle.mimic_events.specs.declared.readreport.Fault.{Fault}
use Rattle.mimic_events.specs.declared.readreport.Fault.TheVariants.{Read, NoReport, Write, OutOfMemory}

-- a number in decimal, and the text after it
abbrev pub counted : ℕ → List ℕ → List ℕ
counted number text = decimal number ++ text

-- the line of the number of trials, their counts, and the nanoseconds
abbrev pub counts_line : ℕ → Conclusion → ℕ → List ℕ
counts_line rows counts nanos = concat (counted rows (codes " trials: ") ∷ counted counts.num_passed (codes " passed; ")
    ∷ counted counts.num_failed (codes " failed; ") ∷ counted counts.num_ignored (codes " ignored; ")
    ∷ counted counts.num_measured (codes " measured; ") ∷ counted counts.num_filtered_out (codes " filtered out; ")
    ∷ counted nanos (codes " ns\n") ∷ [])

-- the line of what a report says
abbrev pub report_line : Contents → List ℕ
report_line c = counts_line (length c.entries) (conclusion_of c) c.nanos

-- the line that names a fault
abbrev pub fault_line : Fault → List ℕ
fault_line Read = codes "cannot read\n"
fault_line NoReport = codes "not a report\n"
fault_line Write = codes "cannot write\n"
fault_line OutOfMemory = codes "out of memory\n"

-- the input's bytes, if they are known, are the report of these contents
abbrev pub Holds : Option (List ℕ) → Contents → Type 0
Holds input contents = IfSome input (λ bytes. IsJsonReport bytes contents)

-- an output got a beginning of the text
pub record GetsBeginning (old new : Option (List ℕ)) (text : List ℕ) : Type 0 where
  pub front : List ℕ
  pub rest : List ℕ
  pub parts : text ≡ front ++ rest
  pub appended : Appends old new front

-- the text was appended, or with a fault of writing a beginning of it
abbrev pub PutsText : {T : Type 0} → Option (List ℕ) → Option (List ℕ) → List ℕ → Result T Fault → Type 0
PutsText old new text put = MatchResult put (λ _. Appends old new text)
    (λ fault. (fault ≡ Write) × GetsBeginning old new text)

-- it is a fault of reading the input
abbrev pub IsOfInput : Fault → Type 0
IsOfInput fault = (fault ≡ Read) ⊎ (fault ≡ OutOfMemory)

-- the output got the whole line of what the input holds
pub record PrintsReport (input old new : Option (List ℕ)) : Type 0 where
  pub contents : Contents
  pub held : Holds input contents
  pub appended : Appends old new (report_line contents)

-- the output got a beginning of that line
pub record PrintsBeginning (input old new : Option (List ℕ)) : Type 0 where
  pub contents : Contents
  pub held : Holds input contents
  pub got : GetsBeginning old new (report_line contents)

-- what holds after a fault: a write may have left a beginning of the line, and every other fault left nothing; if the input is
-- called no report, it is none
abbrev pub AfterFault : Fault → Option (List ℕ) → Option (List ℕ) → Option (List ℕ) → Type 0
AfterFault Read input old new = Keeps old new
AfterFault NoReport input old new = Keeps old new
    × ((contents : Contents) → IfSome input (λ bytes. IsJsonReport bytes contents → ⊥))
AfterFault Write input old new = PrintsBeginning input old new
AfterFault OutOfMemory input old new = Keeps old new

-- what the output has got if a report was printed, and if there was a fault
abbrev pub Leaves : {T : Type 0} → Option (List ℕ) → Option (List ℕ) → Option (List ℕ) → Result T Fault → Type 0
Leaves input old new printed = MatchResult printed (λ _. PrintsReport input old new)
    (λ fault. AfterFault fault input old new)

-- the status is 0 if the line was printed and nothing else, and 1 if a fault was printed, as far as that could be written
abbrev pub EndsBy : {T : Type 0} → Option (List ℕ) → Option (List ℕ) → Result T Fault → ℕ → Type 0
EndsBy err got printed status = MatchResult printed (λ _. (status ≡ 0) × Keeps err got)
    (λ fault. (status ≡ 1) × GetsBeginning err got (fault_line fault))

-- how a run ends: what both outputs have got from the input, and the status
pub record Ended (input out out_got err err_got : Option (List ℕ)) (status : ℕ) : Type 0 where
  pub printed : Result ⊤ Fault
  pub left : Leaves input out out_got printed
  pub ended : EndsBy err err_got printed status
