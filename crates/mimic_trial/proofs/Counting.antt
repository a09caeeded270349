-- Lemmas on counts of outcomes.
use Rattle.std.proofs.Common.{◌≡◌, ℕ, ◌+◌, ◌-◌, ◌^◌, ◌<◌, List, [], ◌∷◌, ◌++◌, Bool, true, false, cond, length, take, get_or, refl, sym, ap, ◌∙◌, arith, add-zero}
use Rattle.std.proofs.lemmas.List.{take_more}
use Rattle.std.proofs.lemmas.List.Sums.{count_by-le-length, sum_by_push}
use Rattle.std.specs.Prelude.{count_by}
use Rattle.mimic_trial.specs.declared.outcome.Outcome.{Outcome}
use Rattle.mimic_trial.specs.declared.outcome.Outcome.TheVariants.{Passed, Failed, Ignored, Measured}
use Rattle.mimic_trial.specs.Count.{counts_of, is_passed, is_failed, is_ignored_outcome, is_measured}
use Rattle.mimic_trial.specs.Count.{CanCount, counted}

-- fewer outcomes than the greatest number leave room for one more
pub can_count : (os : List Outcome) (filtered_out : ℕ) (o : Outcome) → length os < 2 ^ 64 - 1 → CanCount (counts_of os filtered_out) o
can_count os n Passed h = omega (arith, count_by-le-length is_passed os)
can_count os n (Failed f) h = omega (arith, count_by-le-length is_failed os)
can_count os n Ignored h = omega (arith, count_by-le-length is_ignored_outcome os)
can_count os n (Measured m) h = omega (arith, count_by-le-length is_measured os)

-- one more that is counted, or isn't
yes : {X : Type 0} (p : X → Bool) (xs : List X) (x : X) → p x ≡ true → count_by p (xs ++ x ∷ []) ≡ count_by p xs + 1
yes p xs x h = sum_by_push (λ y. cond (p y) 1 0) xs x ∙ ap (λ b. count_by p xs + cond b 1 0) h

no : {X : Type 0} (p : X → Bool) (xs : List X) (x : X) → p x ≡ false → count_by p (xs ++ x ∷ []) ≡ count_by p xs
no p xs x h = sum_by_push (λ y. cond (p y) 1 0) xs x ∙ ap (λ b. count_by p xs + cond b 1 0) h ∙ add-zero (count_by p xs)

-- the counts of one more outcome
pub counts-push : (os : List Outcome) (o : Outcome) (filtered_out : ℕ) → counts_of (os ++ o ∷ []) filtered_out ≡ counted (counts_of os filtered_out) o
counts-push os Passed n = rw (yes is_passed os Passed refl, no is_failed os Passed refl, no is_ignored_outcome os Passed refl, no is_measured os Passed refl)
counts-push os (Failed f) n = rw (no is_passed os (Failed f) refl, yes is_failed os (Failed f) refl, no is_ignored_outcome os (Failed f) refl, no is_measured os (Failed f) refl)
counts-push os Ignored n = rw (no is_passed os Ignored refl, no is_failed os Ignored refl, yes is_ignored_outcome os Ignored refl, no is_measured os Ignored refl)
counts-push os (Measured m) n = rw (no is_passed os (Measured m) refl, no is_failed os (Measured m) refl, no is_ignored_outcome os (Measured m) refl, yes is_measured os (Measured m) refl)

-- the counts of the outcomes up to one more place
pub counts-more : (os : List Outcome) (i : ℕ) (o : Outcome) (filtered_out : ℕ) → i < length os → o ≡ get_or os i o
    → counts_of (take (i + 1) os) filtered_out ≡ counted (counts_of (take i os) filtered_out) o
counts-more os i o n h e =
    ap (λ l. counts_of l n) (take_more os i o h ∙ ap (λ x. take i os ++ x ∷ []) (sym e)) ∙ counts-push (take i os) o n
