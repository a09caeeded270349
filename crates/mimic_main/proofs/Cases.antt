-- The tests of cases may be run if each case may be checked.
use Rattle.std.proofs.Common.{ℕ, List, arith, map, subst, sym}
use Rattle.std.proofs.lemmas.List.{get_or-map, length-map}
use Rattle.std.proofs.lemmas.List.Elements.{All-map}
use Rattle.std.specs.Prelude.{All}
use Rattle.mimic_trial.specs.Case.{AreTestsOf}
use Rattle.libtest_mimic.specs.Prelude.{AllCanRun, runner_of, Trial}
use Rattle.mimic_trial.specs.declared.task.Case.{Case}

pub can_run : {N I F : Type 0} (text : N → List ℕ) (check : F) (cases : List (N × I)) (trials : List (Trial (Case I F))) (P : F → I → Type 0)
    → AreTestsOf text check cases trials → All (λ case. P check case.1) cases → AllCanRun (λ case. P case.check case.input) trials
can_run {I = I} {F = F} text check cases trials P tests holds = λ k d lt.
    let may : Case I F → Type 0 = λ case. P case.check case.input in
    let all : All may (map runner_of trials) = subst (All may) (sym tests.runners) (All-map may (λ c. record { input = c.1; check = check }) cases holds) in
    subst may (get_or-map runner_of trials k d (runner_of d) lt) (all k (runner_of d) (omega (arith, length-map trials runner_of, lt)))
