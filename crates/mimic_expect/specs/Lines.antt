-- What the private reader of a line of known failures promises. No public clause names these words.
use Rattle.std.specs.Prelude.{◌≡◌, ℕ, List, [], ◌∷◌, ◌++◌, ⊤}
use Rattle.std.specs.Bool.{MatchBool}
use Rattle.mimic_printer.specs.Json.{Entry}
use Rattle.mimic_expect.specs.Known.{Expected, IsReadable, SaysFailure, says_nothing}
use Rattle.mimic_expect.specs.declared.known.KnownFault.{KnownFault}
use Rattle.mimic_expect.specs.declared.known.KnownFault.TheVariants.{Line, OutOfMemory}

-- what the line of this number says is appended to what was there before
abbrev pub AddsLine : ℕ → List ℕ → List Expected → List Expected → Type 0
AddsLine number line old new = MatchBool (says_nothing line) (new ≡ old)
    ((entry : Entry) × SaysFailure entry line × ((other : Entry) → SaysFailure other line → other ≡ entry)
    × (new ≡ old ++ record { entry = entry; line = number } ∷ []))

abbrev pub CannotAdd : ℕ → List ℕ → KnownFault → Type 0
CannotAdd number line OutOfMemory = ⊤
CannotAdd number line (Line wrong) = (wrong ≡ number) × (IsReadable line → ⊥)
