-- A test that holds of each number below a bound, by computing.
use Rattle.std.proofs.Common.{◌≡◌, ℕ, zero, suc, ◌<◌, Bool, true, false, ◌&&◌, refl, subst, arith, inl, inr}
use Rattle.std.proofs.lemmas.Bool.{cases_lt}

-- p holds of each number below n
abbrev pub all_below : (ℕ → Bool) → ℕ → Bool
all_below p zero = true
all_below p (suc n) = p n && all_below p n

and_left : (a b : Bool) → (a && b) ≡ true → a ≡ true
and_left true b h = refl
and_left false b h = absurd cc

and_right : (a b : Bool) → (a && b) ≡ true → b ≡ true
and_right true b h = h
and_right false b h = absurd cc

pub one_below : (p : ℕ → Bool) (n k : ℕ) → all_below p n ≡ true → k < n → p k ≡ true
one_below p zero k h lt = absurd (omega arith)
one_below p (suc n) k h lt =
    elim (cases_lt k n) [
      | inl below ↦ one_below p n k (and_right (p n) (all_below p n) h) below
      | inr above ↦ let e : n ≡ k = omega arith in subst (λ m. p m ≡ true) e (and_left (p n) (all_below p n) h)
    ]
