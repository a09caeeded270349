-- When two outcomes are the same.
use Rattle.std.proofs.Common.{◌≡◌, ◌==◌, ◌&&◌, Bool, true, false, ℕ, List, Option, None, Some, refl, ap, rules, subst}
use Rattle.std.specs.Prelude.{◌↔◌}
use Rattle.mimic_trial.specs.declared.outcome.Outcome.{Outcome}
use Rattle.mimic_trial.specs.declared.outcome.Outcome.TheVariants.{Passed, Failed, Ignored, Measured}
use Rattle.mimic_trial.specs.Failed.{same_text}

-- they are of the same sort, with the same text or the same numbers (our own)
abbrev pub same_outcome : Outcome → Outcome → Bool
same_outcome Passed Passed = true
same_outcome (Failed f) (Failed g) = same_text f g
same_outcome Ignored Ignored = true
same_outcome (Measured m) (Measured n) = (m.avg == n.avg) && (m.variance == n.variance)
same_outcome a b = false

-- ---- that this is equality

text_is : (f g : Option (List ℕ)) → same_text f g ≡ true → f ≡ g
text_is None None e = refl
text_is None (Some g) e = cc
text_is (Some f) None e = cc
text_is (Some f) (Some g) e = search rules

text_refl : (f : Option (List ℕ)) → same_text f f ≡ true
text_refl None = refl
text_refl (Some f) = search rules

outcome_is : (a b : Outcome) → same_outcome a b ≡ true → a ≡ b
outcome_is Passed Passed e = refl
outcome_is Passed (Failed g) e = cc
outcome_is Passed Ignored e = cc
outcome_is Passed (Measured n) e = cc
outcome_is (Failed f) Passed e = cc
outcome_is (Failed f) (Failed g) e = ap (λ x. Failed x) (text_is f g e)
outcome_is (Failed f) Ignored e = cc
outcome_is (Failed f) (Measured n) e = cc
outcome_is Ignored Passed e = cc
outcome_is Ignored (Failed g) e = cc
outcome_is Ignored Ignored e = refl
outcome_is Ignored (Measured n) e = cc
outcome_is (Measured m) Passed e = cc
outcome_is (Measured m) (Failed g) e = cc
outcome_is (Measured m) Ignored e = cc
outcome_is (Measured m) (Measured n) e = search rules

outcome_refl : (a : Outcome) → same_outcome a a ≡ true
outcome_refl Passed = refl
outcome_refl (Failed f) = text_refl f
outcome_refl Ignored = refl
outcome_refl (Measured m) = search rules

pub outcome_decides : (a b : Outcome) → (same_outcome a b ≡ true) ↔ (a ≡ b)
outcome_decides a b =
    let P : Outcome → Type 0 = λ x. same_outcome a x ≡ true in
    (outcome_is a b, λ e. subst P e (outcome_refl a))
