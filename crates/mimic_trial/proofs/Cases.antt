-- Lemmas on tests of cases.
use Rattle.std.proofs.Common.{◌≡◌, ℕ, List, [], ◌∷◌, ◌++◌, string_bytes, sym, subst, ap, ap₂, ◌∙◌}
use Rattle.std.proofs.lemmas.List.{map-append}
use Rattle.std.proofs.lemmas.List.Elements.{All-push}
use Rattle.std.specs.Prelude.{All, map}
use Rattle.mimic_trial.specs.Case.{AreTestsOf, IsPlainTest}
use Rattle.mimic_trial.specs.Trial.{info_of, runner_of}
use Rattle.mimic_trial.specs.declared.task.Case.{Case}
use Rattle.mimic_trial.specs.declared.trial.Trial.{Trial}

-- one more case, and the test of it
pub one_more : {N D F : Type 0} (text : N → List ℕ) (check : F) (cases : List (N × D)) (trials after : List (Trial (Case D F))) (case : N × D) (trial : Trial (Case D F))
    → AreTestsOf text check cases trials → string_bytes (info_of trial).name ≡ text case.0 → runner_of trial ≡ record { input = case.1; check = check } → IsPlainTest trial
    → after ≡ trials ++ trial ∷ [] → AreTestsOf text check (cases ++ case ∷ []) after
one_more text check cases trials after case trial so_far name runner plain pushed = record {
  names = ap (map (λ t. string_bytes (info_of t).name)) pushed ∙ (map-append (λ t. string_bytes (info_of t).name) trials (trial ∷ []) ∙ ap₂ (λ l x. l ++ x ∷ []) so_far.names name ∙ sym (map-append (λ c. text c.0) cases (case ∷ [])));
  runners = ap (map runner_of) pushed ∙ (map-append runner_of trials (trial ∷ []) ∙ ap₂ (λ l x. l ++ x ∷ []) so_far.runners runner ∙ sym (map-append (λ c. record { input = c.1; check = check }) cases (case ∷ [])));
  plain = subst (All IsPlainTest) (sym pushed) (All-push IsPlainTest trials trial so_far.plain plain);
}
