use Rattle.std.proofs.Common.{◌≡◌, ◌⊎◌, ◌∙◌, inl, inr, ◌++◌, ◌∷◌, [], ℕ, List, Some, ap, arith, length, refl, rules, subst, suc, sym, zero}
use Rattle.std.specs.Prelude.{slice_get}
use Rattle.libtest_mimic.specs.Prelude.{arrived_at, Outcome}
use Rattle.libtest_mimic.proofs.running.gathering.others_than.Goals as goal

same_outcome : (a b : Outcome) → Some a ≡ Some b → a ≡ b
same_outcome a b e = cc

pushed : (items : List Outcome) (x : Outcome) (k : ℕ) (o : Outcome) → slice_get (items ++ x ∷ []) k ≡ Some o → (slice_get items k ≡ Some o) ⊎ ((k ≡ length items) × (x ≡ o))
pushed [] x zero o e = inr (refl, same_outcome x o e)
pushed [] x (suc k) o e = absurd (cc)
pushed (y ∷ items) x zero o e = inl e
pushed (y ∷ items) x (suc k) o e = elim (pushed items x k o e) [ inl s ↦ inl s | inr s ↦ inr (let at = s.0 in omega arith, s.1) ]

pub loop-place-preserved : goal.loop-place-preserved
loop-place-preserved c = record {
  len = search rules;
  fits = search rules;
  others = λ place o arrived stands.
      let all = subst (λ l. slice_get l place ≡ Some o) c.push_reserved.ensures.items stands in
      elim (pushed c.loop-place.room.items c.other_than.result place o all) [
        | inl before ↦ c.loop-place.invariant.others place o arrived before
        | inr now ↦
            let at : place ≡ c.loop-place.place = let count = now.0 in search rules in
            c.other_than.ensures (c.outcome.ensures ∙ ap (λ p. arrived_at p c.args.desk.now.rows) (sym at) ∙ arrived ∙ ap (λ x. Some x) (sym now.1))
      ];
}
