-- Rows that have ended, and their outcomes, counted one by one.
use Rattle.std.proofs.Common.{◌≡◌, inl, inr, ℕ, ◌-◌, ◌<◌, ◌^◌, List, [], ◌∷◌, ◌++◌, length, length-append, sym, ap, arith}
use Rattle.std.proofs.lemmas.List.{map-append}
use Rattle.mimic_trial.specs.Count.{counted, counts_of}
use Rattle.mimic_trial.proofs.Counting.{counts-push}
use Rattle.mimic_printer.specs.Json.{Entry, outcomes_in}
use Rattle.mimic_events.specs.Feed.{AreEnded}

-- there is room for one more
pub few : (bytes : List ℕ) (entries : List Entry) (e : Entry) → AreEnded bytes (entries ++ e ∷ []) → length entries < 2 ^ 64 - 1
few bytes entries e h = elim h.begun [
  | inl none ↦ absurd (omega (arith, ap length none, length-append entries (e ∷ [])))
  | inr b ↦ omega (arith, b.within, b.number, length-append entries (e ∷ []))
]

-- one more outcome
pub one_counted : (entries : List Entry) (e : Entry) → counted (counts_of (outcomes_in entries) 0) e.outcome ≡ counts_of (outcomes_in (entries ++ e ∷ [])) 0
one_counted entries e = sym (rw (map-append, counts-push))
