-- No byte's escaped form begins that of another byte.
use Rattle.std.proofs.Common.{◌≡◌, ℕ, ◌≤◌, true, false, eqb, List, ◌∷◌, ◌++◌, refl, sym, ap, subst, ◌∙◌, arith, inl, inr}
use Rattle.std.proofs.lemmas.Bool.{cases_lt, eqb-true}
use Rattle.std.proofs.lemmas.Bool.Decides.{nat_tests}
use Rattle.std.proofs.lemmas.List.{append_cancel_left}
use Rattle.mimic_trial.specs.Escape.{escape}
use Rattle.mimic_trial.proofs.Bounded.{all_below, one_below}
use Rattle.mimic_trial.proofs.Escapes.{escape-high}
use Rattle.mimic_events.specs.LineParts.{candidate_of, after_backslash, after_u}

not_backslash : (b : ℕ) → 93 ≤ b → eqb b 92 ≡ false
not_backslash b h = grind (arith, nat_tests)

candidate_plain : (b : ℕ) (rest : List ℕ) → 93 ≤ b → candidate_of (b ∷ rest) ≡ b
unfolding candidate_of
candidate_plain b rest h = rw (not_backslash b h) refl

low_again : (rest : List ℕ) → all_below (λ b. eqb (candidate_of (escape b ++ rest)) b) 93 ≡ true
unfolding candidate_of after_backslash after_u
low_again rest = refl

pub again : (b : ℕ) (rest : List ℕ) → candidate_of (escape b ++ rest) ≡ b
again b rest =
    elim (cases_lt b 93) [
      | inl low ↦ eqb-true _ _ (one_below (λ c. eqb (candidate_of (escape c ++ rest)) c) 93 b (low_again rest) low)
      | inr high ↦ rw (escape-high b high) (candidate_plain b rest high)
    ]

-- two readings of one text are one
pub one_split : (text : List ℕ) (b : ℕ) (rest : List ℕ) → text ≡ escape b ++ rest → (v : ℕ) (others : List ℕ) → text ≡ escape v ++ others → (v ≡ b) × (others ≡ rest)
one_split text b rest e v others f =
    let same : v ≡ b = sym (again v others) ∙ ap candidate_of (sym f ∙ e) ∙ again b rest in
    (same, append_cancel_left (escape b) others rest (subst (λ (x : ℕ). escape x ++ others ≡ escape b ++ rest) same (sym f ∙ e)))

-- if a text begins with the escaped form of a byte, this byte is its candidate
pub candidate_at : (text : List ℕ) (v : ℕ) (rest : List ℕ) → text ≡ escape v ++ rest → candidate_of text ≡ v
candidate_at text v rest e = ap candidate_of e ∙ again v rest
