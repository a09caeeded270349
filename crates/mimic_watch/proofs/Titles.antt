-- What a front of an input says of the whole: its title, and the trial that runs.
use Rattle.std.proofs.Common.{◌∙◌, ℕ, List, ◌++◌, Option, Some, None, IfSome, ap, append_assoc, refl, subst, sym}
use Rattle.std.specs.Io.KnownBytes.{Consumes}
use Rattle.mimic_events.specs.Reading.{Decodes}
use Rattle.mimic_printer.specs.Json.{Entry, json_title}
use Rattle.mimic_printer.specs.Row.{Label}
use Rattle.mimic_events.specs.Feed.{AreEnded}
use Rattle.mimic_events.specs.SoFar.{BeginsWithTitle, ShowsRunning}
use Rattle.mimic_watch.specs.Moments.{RunsAfter}

-- what holds whatever follows a front of it
whole : (P : List ℕ → Type 0) (start now : Option (List ℕ)) (bytes : List ℕ) → Consumes start now bytes
    → ((rest : List ℕ) → P (bytes ++ rest)) → IfSome start P
whole P None now bytes gone h = tt
whole P (Some all) None bytes gone h = absurd gone
whole P (Some all) (Some rest) bytes gone h = subst P (sym gone) (h rest)

-- what a front of it announces, the whole does
pub announced_by : (start now : Option (List ℕ)) (bytes : List ℕ) (announced : Option ℕ) → Consumes start now bytes
    → Decodes BeginsWithTitle bytes announced
    → IfSome announced (λ n. IfSome start (BeginsWithTitle n))
announced_by start now bytes None gone found = tt
announced_by start now bytes (Some n) gone found = let t = found.0 in whole (BeginsWithTitle n) start now bytes gone
    (λ rest. record {
      rest = t.rest ++ rest;
      number = t.number;
      parts = ap (λ (l : List ℕ). l ++ rest) t.parts ∙ append_assoc (json_title n) t.rest rest;
    })

-- a trial that runs after a front of it
pub running_in : (start now : Option (List ℕ)) (bytes : List ℕ) (entries : List Entry) (running : Option Label)
    → Consumes start now bytes → AreEnded bytes entries
    → Decodes ShowsRunning bytes running → IfSome running (λ label. IfSome start (RunsAfter entries label))
running_in start now bytes entries None gone ended found = tt
running_in start now bytes entries (Some label) gone ended found =
    whole (RunsAfter entries label) start now bytes gone (λ rest. record { bytes = bytes; rest = rest; parts = refl; ended = ended; shows = found.0 })
