-- Grouped digits: how long they are, that they are text, and what they are without their commas.
use Rattle.std.proofs.Common.{◌≡◌, ◌+◌, ◌/◌, ◌<◌, ◌≤◌, ℕ, Bool, true, false, List, [], ◌∷◌, length, refl, ap, ◌∙◌, arith, rules, ◌==◌, suc, lit<, if◌then◌else◌}
use Rattle.std.specs.Prelude.{Result, Ok, Err, MatchResult, IsOk}
use Rattle.std.specs.Borrow.{Bor}
use Rattle.std.specs.Str.{IsUtf8, IsAscii}
use Rattle.std.specs.Str.Parse.{AllDigits}
use Rattle.std.proofs.lemmas.Bool.{ne_eqb}
use Rattle.std.proofs.lemmas.Bool.Decides.{nat_tests}
use Rattle.std.proofs.lemmas.Str.Ascii.{IsAscii-cons, IsAscii-nil}
use Rattle.std.proofs.lemmas.Str.Parse.{digit_from_value}
use Rattle.mimic_trial.specs.Text.{grouped, without_commas}

length-grouped : (d : ℕ) (ds : List ℕ) → length (grouped (d ∷ ds)) ≡ 1 + length ds + length ds / 3
length-grouped d [] = refl
length-grouped d (e ∷ es) = let h = length-grouped e es in grind (arith, nat_tests)

-- twenty digits and their commas have room
pub room_for : (ds : List ℕ) → length ds ≤ 20 → 0 + length (grouped ds) ≤ 26
room_for [] h = omega arith
room_for (d ∷ ds) h = omega (arith, length-grouped d ds)

with_comma : (t : Bool) (d : ℕ) (ds : List ℕ) → d < 128 → IsAscii ds → IsAscii (if t then d ∷ 44 ∷ ds else d ∷ ds)
with_comma true d ds h rest = IsAscii-cons d (44 ∷ ds) h (IsAscii-cons 44 ds (lit< tt) rest)
with_comma false d ds h rest = IsAscii-cons d ds h rest

pub IsAscii-grouped : (ds : List ℕ) → IsAscii ds → IsAscii (grouped ds)
IsAscii-grouped [] h = IsAscii-nil
IsAscii-grouped (d ∷ ds) h = with_comma _ d (grouped ds) (h 0) (IsAscii-grouped ds (λ i. h (suc i)))

-- bytes that are text are read as text
pub utf8_ok : {E : Type 0} (Q : E → Type 0) (r : Result (Bor (List ℕ)) E) (bs : List ℕ)
    → MatchResult r (λ s. (s.now ≡ bs) × IsUtf8 bs) (λ e. ¬ (IsUtf8 bs) × Q e) → IsUtf8 bs → IsOk r
utf8_ok Q (Ok x) bs h u = search rules
utf8_ok Q (Err e) bs h u = absurd (h.0 u)

kept : (t : Bool) (d : ℕ) (ds : List ℕ) → (d == 44) ≡ false → without_commas (if t then d ∷ 44 ∷ ds else d ∷ ds) ≡ d ∷ without_commas ds
kept true d ds e = rw e refl
kept false d ds e = rw e refl

-- grouped digits without their commas are the digits
pub without_commas-grouped : (ds : List ℕ) → AllDigits 10 ds → without_commas (grouped ds) ≡ ds
without_commas-grouped [] h = refl
without_commas-grouped (d ∷ ds) h =
    kept _ d (grouped ds) (ne_eqb _ _ (λ e. omega (arith, digit_from_value d h.0))) ∙ ap (λ x. d ∷ x) (without_commas-grouped ds h.1)
