-- What a call that writes to a sink does: it appends its text, or a beginning of it, and counts one more fault or keeps it.
use Rattle.std.specs.Prelude.{◌≡◌, ◌<◌, ℕ, ◌+◌, ◌-◌, ◌^◌, Bool, true, false, is_some, List, [], ◌++◌, Option, Result, Ok, Err, MatchResult}
use Rattle.std.specs.Io.KnownBytes.{Appends}
use Rattle.mimic_printer.specs.declared.sink.OutputFault.{OutputFault}
use Rattle.mimic_printer.specs.declared.sink.OutputFault.TheVariants.{OutOfMemory, Write}
use Rattle.mimic_printer.specs.declared.sink.Sink.{Sink}

-- the writer that a sink holds
abbrev pub writer_of : {W : Type 0} → Sink W → W
writer_of s = s.writer

-- how many faults the sink has counted
abbrev pub faults_of : {W : Type 0} → Sink W → ℕ
faults_of s = s.faults

-- the sink can count one more fault
abbrev pub HasFaultLeft : {W : Type 0} → Sink W → Type 0
HasFaultLeft sink = faults_of sink < 2 ^ 64 - 1

-- what a sink shows: the bytes of its writer, if these are known, and how many faults it has counted
pub record Shown : Type 0 where
  pub bytes : Option (List ℕ)
  pub faults : ℕ

-- what a sink shows, if `contents` gives the bytes that a writer holds. If it gives none, as of a file, nothing is claimed
-- of them
abbrev pub shown : {W : Type 0} → (W → Option (List ℕ)) → Sink W → Shown
shown contents s = record { bytes = contents (writer_of s); faults = faults_of s }

-- the text was appended, and no fault was counted
pub record Put (old new : Shown) (text : List ℕ) : Type 0 where
  pub appended : Appends old.bytes new.bytes text
  pub faults : new.faults ≡ old.faults

-- a beginning of the text was appended, and one fault was counted
pub record Stopped (old new : Shown) (text : List ℕ) : Type 0 where
  pub front : List ℕ
  pub rest : List ℕ
  pub beginning : text ≡ front ++ rest
  pub appended : Appends old.bytes new.bytes front
  pub faults : new.faults ≡ old.faults + 1

-- with Ok the text was appended, and with a fault a beginning of it
abbrev pub Writes : {E T : Type 0} → Shown → Shown → List ℕ → Result T E → Type 0
Writes old new text result = MatchResult result (λ _. Put old new text) (λ _. Stopped old new text)

-- the same of a sink
abbrev pub Puts : {W E T : Type 0} → (W → Option (List ℕ)) → Sink W → Sink W → List ℕ → Result T E → Type 0
Puts contents old new text result = Writes (shown contents old) (shown contents new) text result

-- what is left by a call that could not write a text to its end: a beginning of it, and without memory nothing
abbrev pub LeftBy : OutputFault → Shown → Shown → List ℕ → Type 0
LeftBy OutOfMemory old new text = new ≡ old
LeftBy (Write error) old new text = Stopped old new text

-- with Ok the text was appended, with a fault of the writer a beginning of it, and without memory nothing
abbrev pub LeavesText : {T : Type 0} → List ℕ → Shown → Shown → Result T OutputFault → Type 0
LeavesText text old new (Ok value) = Put old new text
LeavesText text old new (Err fault) = LeftBy fault old new text

-- ---- texts that are added part by part

-- the sink keeps a fault
abbrev pub keeps_fault : {W : Type 0} → Sink W → Bool
keeps_fault s = is_some s.fault

-- a beginning of the text was appended, and no fault was counted: the whole text if no fault is kept now, and nothing if one was
-- kept before
pub record Adds {W : Type 0} (contents : W → Option (List ℕ)) (old new : Sink W) (text : List ℕ) : Type 0 where
  pub front : List ℕ
  pub rest : List ℕ
  pub parts : text ≡ front ++ rest
  pub appended : Appends (contents (writer_of old)) (contents (writer_of new)) front
  pub faults : faults_of new ≡ faults_of old
  pub whole : keeps_fault new ≡ false → (keeps_fault old ≡ false) × (rest ≡ [])
  pub nothing : keeps_fault old ≡ true → front ≡ []

-- a kept fault was handed out and counted, none was kept if there is no error, and none is kept now
pub record Ends {W E T : Type 0} (old new : Sink W) (result : Result T E) : Type 0 where
  pub writer : writer_of new ≡ writer_of old
  pub ready : keeps_fault new ≡ false
  pub counted : MatchResult result (λ _. (keeps_fault old ≡ false) × (faults_of new ≡ faults_of old))
      (λ _. faults_of new ≡ faults_of old + 1)
