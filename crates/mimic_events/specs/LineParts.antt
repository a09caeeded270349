-- What the private readers of parts of a line promise one another. No public clause names these words.
use Rattle.std.specs.Prelude.{◌≡◌, ◌≢◌, ℕ, ◌+◌, ◌-◌, ◌<◌, ◌≤◌, ◌^◌, ◌==◌, nat_lt, if◌then◌else◌, Bool, true, List, [], ◌∷◌, ◌++◌, decimal, Option, Some, None, IsUtf8, codes, ◌⊎◌}
use Rattle.std.specs.Borrow.{Bor}
use Rattle.std.specs.Str.Parse.{AllDigits, digits_value}
use Rattle.mimic_trial.specs.declared.outcome.Outcome.{Outcome}
use Rattle.mimic_trial.specs.declared.outcome.Outcome.TheVariants.{Passed, Failed, Ignored, Measured}
use Rattle.mimic_trial.specs.Count.{is_failed, is_measured}
use Rattle.mimic_trial.specs.Escape.{ArePlain, escape, escaped}
use Rattle.mimic_printer.specs.Row.{Label}
use Rattle.mimic_printer.specs.Json.{Entry, FitsLabel, FitsTime, event_field, json_announcement, json_end, json_line, json_outcome, kind_field, outcome_fields, stdout_key, time_field, time_key}
use Rattle.mimic_trial.specs.Seconds.{IsRest, exact_seconds}
use Rattle.mimic_trial.specs.Promise.{FitsTypes}
use Rattle.mimic_events.specs.Reading.{End, IsFailedLine}

-- ---- fronts

-- the text is the front and then what was found; if nothing was found, the text doesn't begin with the front
abbrev pub Follows : List ℕ → List ℕ → Option (Bor (List ℕ)) → Type 0
Follows front text None = (rest : List ℕ) → text ≢ front ++ rest
Follows front text (Some rest) = text ≡ front ++ rest.now

-- ---- texts in quotes

-- the byte that a backslash and a letter stand for
abbrev pub named_of : ℕ → ℕ
named_of letter =
    if letter == 98 then 8
    else (if letter == 116 then 9
    else (if letter == 110 then 10
    else (if letter == 102 then 12
    else (if letter == 114 then 13
    else letter))))

-- the byte of two hexadecimal digits, the first of them 0 or 1
abbrev pub control_of : ℕ → ℕ → ℕ
control_of high low = (if high == 49 then 16 else 0) + (if nat_lt low 58 then low - 48 else low - 87)

-- the byte of what follows a backslash and a u
unfoldable pub after_u : List ℕ → ℕ
after_u (c ∷ d ∷ high ∷ low ∷ rest) = control_of high low
after_u text = 117

-- the byte of what follows a backslash
unfoldable pub after_backslash : List ℕ → ℕ
after_backslash [] = 92
after_backslash (letter ∷ rest) = if letter == 117 then after_u rest else named_of letter

-- the only byte whose escaped form the text can begin with, whether or not it does
unfoldable pub candidate_of : List ℕ → ℕ
candidate_of [] = 0
candidate_of (b ∷ rest) = if b == 92 then after_backslash rest else b

-- what was found is a value and a rest that spell the text, and no others spell it; if nothing was found, none do
abbrev pub Reads : {V : Type 0} → (V → List ℕ → List ℕ) → List ℕ → Option (V × List ℕ) → Type 0
Reads {V} spelled text None = (v : V) (rest : List ℕ) → text ≡ spelled v rest → ⊥
Reads {V} spelled text (Some found) = (text ≡ spelled found.0 found.1)
    × ((v : V) (rest : List ℕ) → text ≡ spelled v rest → (v ≡ found.0) × (rest ≡ found.1))

-- a byte in its escaped form, and what follows
abbrev pub ReadsByte : List ℕ → Option (ℕ × List ℕ) → Type 0
ReadsByte = Reads (λ byte rest. escape byte ++ rest)

-- a text up to a closing quote, and what follows the quote
abbrev pub ReadsQuoted : List ℕ → Option (List ℕ × List ℕ) → Type 0
ReadsQuoted = Reads (λ text rest. escaped text ++ 34 ∷ rest)

-- the same after a front
abbrev pub ReadsNamed : List ℕ → List ℕ → Option (List ℕ × List ℕ) → Type 0
ReadsNamed front = Reads (λ text rest. front ++ (escaped text ++ 34 ∷ rest))

-- the text is the front, this value in quotes, and the end of the line
abbrev pub IsQuoted : List ℕ → List ℕ → List ℕ → Type 0
IsQuoted front value text = text ≡ front ++ (escaped value ++ 34 ∷ json_end)

-- the bytes begin with the escaped form of the text, and the rest follows; no other text ends there at a quote
pub record ReadsEscaped (bytes text rest : List ℕ) : Type 0 where
  pub front : bytes ≡ escaped text ++ rest
  pub only : (other after : List ℕ) → bytes ≡ escaped other ++ 34 ∷ after → (other ≡ text) × (34 ∷ after ≡ rest)

-- the bytes are a text, and none of them needs an escape
abbrev pub IsPlainText : List ℕ → Type 0
IsPlainText text = IsUtf8 text × ArePlain text

-- ---- numbers

-- the bytes don't begin with a digit
abbrev pub EndsNumber : List ℕ → Type 0
EndsNumber [] = Unit {0}
EndsNumber (b ∷ bytes) = 48 ≤ b → b ≤ 57 → ⊥

-- the digits at the front, all of them, and the rest
pub record SplitsDigits (bytes front rest : List ℕ) : Type 0 where
  pub parts : bytes ≡ front ++ rest
  pub digits : AllDigits 10 front
  pub stop : EndsNumber rest

-- what was found are all digits at the front, the number that they write, and the rest; if nothing was found, it is too large
abbrev pub ReadsDigits : List ℕ → Option (List ℕ × ℕ × List ℕ) → Type 0
ReadsDigits bytes None = (front rest : List ℕ) → SplitsDigits bytes front rest → 2 ^ 64 ≤ digits_value 10 front
ReadsDigits bytes (Some found) = (found.1 < 2 ^ 64) × (found.1 ≡ digits_value 10 found.0) × SplitsDigits bytes found.0 found.2

-- what was found is the number at the front, before the rest, and no other number ends there; else none does
abbrev pub ReadsNumber : List ℕ → Option (ℕ × List ℕ) → Type 0
ReadsNumber bytes None = (n : ℕ) (rest : List ℕ) → n < 2 ^ 64 → EndsNumber rest → bytes ≡ decimal n ++ rest → ⊥
ReadsNumber bytes (Some found) = (found.0 < 2 ^ 64) × (bytes ≡ decimal found.0 ++ found.1) × EndsNumber found.1
    × ((n : ℕ) (rest : List ℕ) → n < 2 ^ 64 → EndsNumber rest → bytes ≡ decimal n ++ rest
    → (n ≡ found.0) × (rest ≡ found.1))

-- ---- lines

-- the text is what follows the name and its closing quote in the announcement of a trial of this kind
abbrev pub IsKind : List ℕ → List ℕ → Type 0
IsKind kind text = IsUtf8 kind × (text ≡ kind_field kind ++ json_end)

-- what follows the name and the kind in the line of an outcome
abbrev pub tail : Outcome → Option ℕ → List ℕ
tail outcome time = json_line (outcome_fields outcome time)

-- the text is the tail of this outcome, which was measured or wasn't, with this time
abbrev pub IsTail : Bool → End → List ℕ → Type 0
IsTail measured end text = (is_measured end.0 ≡ measured) × FitsTypes end.0 × FitsTime end.1 × (text ≡ tail end.0 end.1)

-- the field that says an outcome in a word, and nothing for a measurement
abbrev pub word_field : Outcome → List ℕ
word_field Passed = event_field (codes "ok")
word_field (Failed message) = event_field (codes "failed")
word_field Ignored = event_field (codes "ignored")
word_field (Measured m) = []

-- what follows the time: a failure's message, and the end of the line
abbrev pub behind_time : Outcome → List ℕ
behind_time (Failed (Some message)) = stdout_key ++ (escaped message ++ (codes "\\\"\\n\"" ++ json_end))
behind_time outcome = json_end

-- the text is what follows the word of a failure with this end
abbrev pub IsFailedEnd : End → List ℕ → Type 0
IsFailedEnd end text = (is_failed end.0 ≡ true) × FitsTypes end.0 × FitsTime end.1 × (text ≡ time_field end.1 ++ behind_time end.0)

-- the text is what follows the time of a failure with this message, or without one
abbrev pub IsMessage : Option (List ℕ) → List ℕ → Type 0
IsMessage message text = FitsTypes (Failed message) × (text ≡ behind_time (Failed message))

-- the same with a message
abbrev pub IsSaid : List ℕ → List ℕ → Type 0
IsSaid message text = IsUtf8 message × (text ≡ behind_time (Failed (Some message)))

-- ---- times

-- the byte is a digit or a point
abbrev pub IsOfSeconds : ℕ → Type 0
IsOfSeconds b = (b ≡ 46) ⊎ ((48 ≤ b) × (b ≤ 57))

-- the bytes don't begin with a digit or a point
abbrev pub EndsSeconds : List ℕ → Type 0
EndsSeconds [] = Unit {0}
EndsSeconds (b ∷ bytes) = IsOfSeconds b → ⊥

-- what was found are the nanoseconds of what follows the whole seconds, and the rest, and no others are; else none are
abbrev pub ReadsFraction : List ℕ → Option (ℕ × List ℕ) → Type 0
ReadsFraction bytes None = (n : ℕ) (text rest : List ℕ) → IsRest n text → EndsSeconds rest → bytes ≡ text ++ rest → ⊥
ReadsFraction bytes (Some found) = ((text : List ℕ) × IsRest found.0 text × (bytes ≡ text ++ found.1))
    × ((n : ℕ) (text rest : List ℕ) → IsRest n text → EndsSeconds rest → bytes ≡ text ++ rest
    → (n ≡ found.0) × (rest ≡ found.1))

-- what was found are the nanoseconds of the seconds at the front, and the rest, and no others are; else none are
abbrev pub ReadsSeconds : List ℕ → Option (ℕ × List ℕ) → Type 0
ReadsSeconds bytes None = (n : ℕ) (rest : List ℕ) → n < 2 ^ 64 → EndsSeconds rest → bytes ≡ exact_seconds n ++ rest → ⊥
ReadsSeconds bytes (Some found) = (found.0 < 2 ^ 64) × (bytes ≡ exact_seconds found.0 ++ found.1)
    × ((n : ℕ) (rest : List ℕ) → n < 2 ^ 64 → EndsSeconds rest → bytes ≡ exact_seconds n ++ rest
    → (n ≡ found.0) × (rest ≡ found.1))

-- what can follow a time in a line: its end, or a failure's message
abbrev pub FollowsTime : List ℕ → Type 0
FollowsTime rest = (rest ≡ json_end) ⊎ ((more : List ℕ) × (rest ≡ stdout_key ++ more))

-- what was found is the time at the front, or none, before the rest, and no other does; if nothing was found, none does
abbrev pub ReadsTime : List ℕ → Option (Option ℕ × List ℕ) → Type 0
ReadsTime text None = (time : Option ℕ) (rest : List ℕ) → FitsTime time → FollowsTime rest → text ≡ time_field time ++ rest → ⊥
ReadsTime text (Some found) = FitsTime found.0 × (text ≡ time_field found.0 ++ found.1)
    × ((time : Option ℕ) (rest : List ℕ) → FitsTime time → FollowsTime rest → text ≡ time_field time ++ rest
    → (time ≡ found.0) × (rest ≡ found.1))

-- the text is this time and the end of the line
abbrev pub IsTime : Option ℕ → List ℕ → Type 0
IsTime time text = FitsTime time × (text ≡ time_field time ++ json_end)

-- if the line says that a trial failed, the texts that were found are its name and kind; if none were found, it says it of none
abbrev pub SaysFailed : List ℕ → Option Label → Type 0
SaysFailed line None = (entry : Entry) → IsFailedLine entry line → ⊥
SaysFailed line (Some label) = FitsLabel label × ((entry : Entry) → IsFailedLine entry line → entry.label ≡ label)

-- the text has no other kind before the tail of a failure
abbrev pub SaysKind : List ℕ → List ℕ → Type 0
SaysKind text kind = (other : List ℕ) (message : Option (List ℕ)) (time : Option ℕ)
    → text ≡ kind_field other ++ tail (Failed message) time → other ≡ kind

-- what follows the counts of outcomes in a summary: how many trials were filtered out, and the nanoseconds
abbrev pub IsTotals : ℕ × ℕ → List ℕ → Type 0
IsTotals numbers text = (numbers.0 < 2 ^ 64) × (numbers.1 < 2 ^ 64)
    × (text ≡ json_line (decimal numbers.0 ∷ time_key ∷ exact_seconds numbers.1 ∷ []))

-- ---- the two lines of a row

-- the outcome is said in a word: it has no message and no numbers
abbrev pub IsWord : Outcome → Type 0
IsWord Passed = Unit {0}
IsWord Ignored = Unit {0}
IsWord (Failed None) = Unit {0}
IsWord (Failed (Some message)) = ⊥
IsWord (Measured m) = ⊥

-- the bytes spell a name and a kind, each with its closing quote
pub record SpellsLabel (bytes : List ℕ) : Type 0 where
  pub label : Label
  pub fits : FitsLabel label
  pub spelled : bytes ≡ escaped label.name ++ 34 ∷ kind_field label.kind

-- the text begins with the field of this outcome, which is said in a word, and the rest follows
abbrev pub BeginsEvent : List ℕ → Outcome → List ℕ → Type 0
BeginsEvent text outcome rest = IsWord outcome × (text ≡ word_field outcome ++ rest)

-- the text begins with some time, or none, and the end of the line, and the rest follows
abbrev pub BeginsEnd : List ℕ → List ℕ → Type 0
BeginsEnd text rest = (time : Option ℕ) × FitsTime time × (text ≡ time_field time ++ (json_end ++ rest))

-- the text begins with the tail of this outcome, which is said in a word, with some time, and the rest follows
abbrev pub BeginsTail : List ℕ → Outcome → List ℕ → Type 0
BeginsTail text outcome rest = IsWord outcome × ((time : Option ℕ) × FitsTime time × (text ≡ tail outcome time ++ rest))

-- the text begins with the two lines of a row with this outcome, which is said in a word, and with some time; the rest follows
pub record BeginsRow (text : List ℕ) (outcome : Outcome) (rest : List ℕ) : Type 0 where
  pub label : Label
  pub fits : FitsLabel label
  pub word : IsWord outcome
  pub time : Option ℕ
  pub time_fits : FitsTime time
  pub parts : text ≡ json_announcement label ++ (json_outcome label outcome time ++ rest)
