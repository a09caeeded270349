-- How often messages come.
use Rattle.std.proofs.Common.{◌≡◌, ◌&&◌, ◌||◌, ◌==◌, not, ℕ, ◌+◌, ◌-◌, ◌^◌, ◌<◌, Bool, true, false, cond, List, [], ◌∷◌, length, take, length-take, get_or, unwrap_or, refl, sym, ap, ◌∙◌, arith, add-zero}
use Rattle.std.specs.Prelude.{Option, None, Some}
use Rattle.std.specs.Cmp.{decided}
use Rattle.std.specs.HashMap.{HashMap, get}
use Rattle.std.specs.List.{list_any}
use Rattle.std.specs.Option.{option_copied}
use Rattle.std.specs.Str.{bytes_eq}
use Rattle.std.proofs.lemmas.List.{take_more}
use Rattle.std.proofs.lemmas.List.Folds.{list_any-append}
use Rattle.std.proofs.lemmas.List.Sums.{count_by-le-length, sum_by-cons, sum_by_push}
use Rattle.std.proofs.lemmas.Slice.Eq.{bytes_eq-Decides}
use Rattle.mimic_trial.specs.declared.outcome.Outcome.{Outcome}
use Rattle.mimic_trial.specs.declared.outcome.Outcome.TheVariants as outcome
use Rattle.mimic_trial.specs.Count.{is_failed}
use Rattle.mimic_trial.specs.Failed.{same_text}
use Rattle.mimic_trial.specs.Same.{same_outcome}
use Rattle.mimic_compare.specs.Classes.{failures, frequency, have_other_messages, is_other}
use Rattle.mimic_compare.specs.Fates.{Fate}
use Rattle.mimic_compare.specs.Messages.{HasCounts, same_message}
use denote.Ref.{Bor}

-- ---- messages

symm : (f g : List ℕ) → bytes_eq f g ≡ bytes_eq g f
symm = (decided bytes_eq bytes_eq-Decides).symm

-- whether two messages are the same
same_texts : (k q : Option (Bor (List ℕ))) → same_message k q ≡ same_text (option_copied q) (option_copied k)
same_texts None None = refl
same_texts None (Some g) = refl
same_texts (Some f) None = refl
same_texts (Some f) (Some g) = symm f.now g.now

is_same : (k q : Option (Bor (List ℕ))) → same_message k q ≡ true → option_copied k ≡ option_copied q
is_same None None h = refl
is_same None (Some g) h = absurd (cc)
is_same (Some f) None h = absurd (cc)
is_same (Some f) (Some g) h = ap (λ x. Some x) ((bytes_eq-Decides f.now g.now).0 h)

-- ---- one more row

frequency-push : (o : Outcome) (fates : List Fate) (i : ℕ) (fate : Fate) → i < length fates → fate ≡ get_or fates i fate
    → frequency o (take (i + 1) fates) ≡ frequency o (take i fates) + cond (same_outcome o fate.outcome) 1 0
frequency-push o fates i fate lt is =
    rw (take_more fates i fate lt, ← is) (sum_by_push (λ (f : Fate). cond (same_outcome o f.outcome) 1 0) (take i fates) fate)

pub frequency_small : (fates : List Fate) (i : ℕ) (o : Outcome) (n : ℕ) → i < length fates → length fates < 2 ^ 64 → n ≡ frequency o (take i fates) → n < 2 ^ 64 - 1
frequency_small fates i o n lt small is =
    omega (arith, lt, small, is, count_by-le-length (λ (fate : Fate). same_outcome o fate.outcome) (take i fates), length-take i fates)

module _ {S : Type 0} (fates : List Fate) (i : ℕ) (fate : Fate) (lt : i < length fates) (is : fate ≡ get_or fates i fate) (old : HashMap (Option (Bor (List ℕ))) ℕ S)
    (has : HasCounts old (take i fates)) where
  -- one more failure
  pub frequency_more : (new : HashMap (Option (Bor (List ℕ))) ℕ S) (message key : Option (Bor (List ℕ))) (f : Option (List ℕ)) (n : ℕ) → fate.outcome ≡ outcome.Failed f → option_copied key ≡ f
      → ((q : Option (Bor (List ℕ))) → get same_message new q ≡ cond (same_message key q) (Some (n + 1)) (get same_message old q))
      → option_copied message ≡ f → n ≡ frequency (outcome.Failed (option_copied message)) (take i fates) → HasCounts new (take (i + 1) fates)
  frequency_more new message key f n failed own updates asked e q =
      rw (updates q, frequency-push (outcome.Failed (option_copied q)) fates i fate lt is, failed, ← own, ← same_texts key q) (at (same_message key q) refl)
    where
      at : (b : Bool) → same_message key q ≡ b → unwrap_or (cond b (Some (n + 1)) (get same_message old q)) 0 ≡ frequency (outcome.Failed (option_copied q)) (take i fates) + cond b 1 0
      at true h = ap (λ (k : ℕ). k + 1) (e ∙ ap (λ (m : Option (List ℕ)). frequency (outcome.Failed m) (take i fates)) (asked ∙ sym own ∙ is_same key q h))
      at false h = has q ∙ sym (add-zero (frequency (outcome.Failed (option_copied q)) (take i fates)))

  -- one more row that is no failure
  pub frequency_kept : is_failed fate.outcome ≡ false → HasCounts old (take (i + 1) fates)
  frequency_kept sound q = has q ∙ sym (frequency-push (outcome.Failed (option_copied q)) fates i fate lt is ∙ at fate.outcome sound)
    where
      at : (o : Outcome) → is_failed o ≡ false → frequency (outcome.Failed (option_copied q)) (take i fates) + cond (same_outcome (outcome.Failed (option_copied q)) o) 1 0
          ≡ frequency (outcome.Failed (option_copied q)) (take i fates)
      at (outcome.Failed f) h = absurd (cc)
      at other h = add-zero (frequency (outcome.Failed (option_copied q)) (take i fates))

-- ---- no failure

none_failed : (before after fates : List Fate) → failures fates ≡ 0 → list_any (is_other before after) fates ≡ false
none_failed before after [] h = refl
none_failed before after (fate ∷ fates) h =
    let counted = sum_by-cons (λ (f : Fate). cond (is_failed f.outcome) 1 0) fate fates in
    at (is_failed fate.outcome) (sym counted ∙ h) (none_failed before after fates)
  where
    at : (b : Bool) → cond b 1 0 + failures fates ≡ 0 → (failures fates ≡ 0 → list_any (is_other before after) fates ≡ false)
        → ((b && not (frequency fate.outcome before == frequency fate.outcome after)) || list_any (is_other before after) fates) ≡ false
    at true n rest = absurd (omega (arith, n))
    at false n rest = rest (omega (arith, n))

pub none_other : (old new : List Fate) → failures old ≡ 0 → failures new ≡ 0 → have_other_messages old new ≡ false
none_other old new h k = rw (list_any-append (is_other old new) old new, none_failed old new old h, none_failed old new new k) refl
