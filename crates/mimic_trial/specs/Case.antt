-- Tests that differ in their input alone.
use Rattle.std.specs.Prelude.{◌≡◌, ℕ, [], All, List, Option, Result, false, map, string_bytes}
use Rattle.mimic_trial.specs.Promise.{Gives, outcome_of_test}
use Rattle.mimic_trial.specs.Trial.{info_of, runner_of}
use Rattle.mimic_trial.specs.declared.task.Case.{Case}
use Rattle.mimic_trial.specs.declared.trial.Trial.{Trial}

-- a test without a kind and without the ignored flag
abbrev pub IsPlainTest : {R : Type 0} → Trial R → Type 0
IsPlainTest trial = (string_bytes (info_of trial).kind ≡ []) × ((info_of trial).is_ignored ≡ false)
    × ((info_of trial).is_bench ≡ false)

-- one test for each case, in their order, each with the name and the input of its case and the check that all share (our own)
pub record AreTestsOf {N D F : Type 0} (text : N → List ℕ) (check : F) (cases : List (N × D))
    (trials : List (Trial (Case D F))) : Type 0 where
  pub names : map (λ t. string_bytes (info_of t).name) trials ≡ map (λ c. text c.0) cases
  pub runners : map runner_of trials ≡ map (λ c. record { input = c.1; check = check }) cases
  pub plain : All IsPlainTest trials

-- a case gives the outcome of an answer that its check may return for its input (our own)
abbrev pub OutcomesOf : {D F : Type 0} → (F → D → Result (Unit {0}) (Option (List ℕ)) → Type 0) → Gives (Case D F)
OutcomesOf returns case test_mode o = (answer : _) × returns case.check case.input answer × (o ≡ outcome_of_test answer)
