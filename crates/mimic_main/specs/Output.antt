-- What a buffered output was given, and what of it waits.
use Rattle.std.specs.Prelude.{◌≡◌, ◌≢◌, ◌+◌, ◌<◌, ◌≤◌, ℕ, Bool, true, not, List, [], ◌∷◌, length, Option, Result, Ok, IsErr, if◌then◌else◌, nat_eq}
use Rattle.std.specs.List.{ends_with}
use Rattle.std.specs.Io.KnownBytes.{Keeps, append_known}
use Rattle.mimic_main.specs.declared.output.Output.{Output}
use Rattle.mimic_main.specs.declared.policy.FlushPolicy.{FlushPolicy}
use Rattle.mimic_main.specs.declared.output.TheConstants.{BLOCK}
use Rattle.mimic_main.specs.Policy.{goes_out_by}

-- the writer that its bytes go to
abbrev pub writer_of : {W : Type 0} → Output W → W
writer_of output = output.writer

-- the bytes that wait to be written out
abbrev pub waiting_of : {W : Type 0} → Output W → List ℕ
waiting_of output = output.waiting.items

-- when an output writes its bytes out
abbrev pub flushes_by : {W : Type 0} → Output W → FlushPolicy
flushes_by output = output.policy

-- a fault was met
abbrev pub has_stopped : {W : Type 0} → Output W → Bool
has_stopped output = output.has_failed

-- after a fault a call fails, and leaves the writer as it was
abbrev pub StaysStopped : {W X E : Type 0} → Output W → Output W → Result X E → Type 0
StaysStopped old new result = has_stopped old ≡ true → IsErr result × (writer_of new ≡ writer_of old)
    × (has_stopped new ≡ true)

-- a text of which no byte was taken, though it has some, stops the output
abbrev pub StopsAtNothing : {W E : Type 0} → Output W → List ℕ → Result ℕ E → Type 0
StopsAtNothing new text result = text ≢ [] → result ≡ Ok 0 → has_stopped new ≡ true

-- the bytes of the writer and then those that wait in the buffer, if they are known
abbrev pub given_to : {W : Type 0} → (W → Option (List ℕ)) → Output W → Option (List ℕ)
given_to contents output = append_known (contents (writer_of output)) (waiting_of output)

-- known bytes are those that the writer got, and then some rest
abbrev pub HandsOn : Option (List ℕ) → Option (List ℕ) → Type 0
HandsOn given got = (rest : List ℕ) × Keeps given (append_known got rest)

-- a text ends a line if its last byte is a newline
abbrev pub ends_line : List ℕ → Bool
ends_line text = ends_with nat_eq text (10 ∷ [])

-- an odd number of texts that end a line was taken whole
abbrev pub has_odd_lines : {W : Type 0} → Output W → Bool
has_odd_lines output = output.has_odd_lines

-- a text that ends a line counts when it was taken whole, and a front of it does not
pub record CountsLine {W : Type 0} (old new : Output W) (text : List ℕ) (ends : Bool) (count : ℕ) : Type 0 where
  pub whole : count ≡ length text → has_odd_lines new ≡ (if ends then not (has_odd_lines old) else has_odd_lines old)
  pub front : count < length text → has_odd_lines new ≡ has_odd_lines old

-- the policy is as it was, and so is what it goes by
pub record SamePolicy {W : Type 0} (old new : Output W) : Type 0 where
  pub policy : flushes_by new ≡ flushes_by old
  pub lines : has_odd_lines new ≡ has_odd_lines old

-- by its policy the output writes out this text, and what waits
abbrev pub goes_out : {W : Type 0} → Output W → List ℕ → Bool
goes_out output text = goes_out_by (flushes_by output) (ends_line text) (has_odd_lines output)

-- `count` bytes more can wait, too
abbrev pub CanWait : {W : Type 0} → Output W → ℕ → Type 0
CanWait output count = (count < BLOCK) × (length (waiting_of output) + count ≤ BLOCK)
