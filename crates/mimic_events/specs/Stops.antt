-- What is written about a report that has no end (our own).
use Rattle.std.specs.Prelude.{ℕ, List, [], ◌∷◌, ◌++◌, codes, decimal, Option, Some, None}
use Rattle.std.specs.List.{concat}
use Rattle.mimic_events.specs.declared.ending.Stop.{Stop}

-- the line that is wrong
abbrev pub wrong_part : Option ℕ → List ℕ
wrong_part None = []
wrong_part (Some number) =
    concat (codes "line " ∷ decimal number ∷ codes " is no line of a report; " ∷ [])

-- how far the report goes, which has rows of `ended` trials
abbrev pub ended_part : ℕ → Option ℕ → List ℕ
ended_part ended None = codes "no report"
ended_part ended (Some announced) = concat (codes "the report ends after " ∷ decimal ended
    ∷ codes " of " ∷ decimal announced ∷ codes " trials" ∷ [])

-- both, one after the other
unfoldable pub extent_text : ℕ → Stop → List ℕ
extent_text ended stop = wrong_part stop.wrong_line ++ ended_part ended stop.announced
