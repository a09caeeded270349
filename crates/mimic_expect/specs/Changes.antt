-- What the private parts of bringing a file up to date promise. No public clause names these words.
use Rattle.std.specs.Prelude.{◌≡◌, ℕ, ◌==◌, List, Option}
use Rattle.std.specs.HashMap.{HashMap, get}
use Rattle.std.specs.Option.{option_map}
use Rattle.mimic_expect.specs.Expect.{Finding}
use Rattle.mimic_expect.specs.JudgementText.{finding_read}
use Rattle.mimic_expect.specs.Updated.{found_at}
use Rattle.mimic_expect.specs.declared.judgement.Unexpected.{Unexpected}

-- what a table has about the line of a number
abbrev pub read_at : {S : Type 0} → HashMap ℕ Unexpected S → ℕ → Option Finding
read_at table number = option_map finding_read (get (λ a b. a == b) table number)

-- the table leads from the number of each line to the finding about it
abbrev pub HasChanges : {S : Type 0} → HashMap ℕ Unexpected S → List Finding → Type 0
HasChanges table found = (number : ℕ) → read_at table number ≡ found_at found number
