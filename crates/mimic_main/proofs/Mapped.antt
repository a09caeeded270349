-- What still holds if an error is mapped.
use Rattle.std.proofs.Common.{◌≡◌, Result, Ok, Err, IfErr, IfOk, IsErrAnd, is_ok, MatchResult, subst, sym}
use Rattle.std.proofs.lemmas.Bool.{false≢true}
use Rattle.libtest_mimic.specs.declared.running.RunError.{RunError}
use Rattle.mimic_main.specs.Ended.{IfOfRun}
use Rattle.mimic_main.specs.declared.program.Fault.{Fault}
use Rattle.mimic_main.specs.declared.program.Fault.TheVariants.{Run}

-- what holds of an Ok value
pub IfOk-map_err : {A E D : Type 0} (P : A → Type 0) (Q : E → Type 0) (r : Result A E) (m : Result A D) → IfOk r P → MatchResult r (λ x. m ≡ Ok x) Q → is_ok m ≡ is_ok r → IfOk m P
IfOk-map_err {A} {E} {D} P Q (Ok x) m p c v = let R : Result A D → Type 0 = λ y. IfOk y P in subst R (sym c) p
IfOk-map_err P Q (Err e) (Ok y) p c v = absurd (false≢true (sym v))
IfOk-map_err P Q (Err e) (Err d) p c v = tt

-- what holds of the fault of a run
pub IfOfRun-map_err : {A : Type 0} (P : RunError → Type 0) (r : Result A RunError) (m : Result A Fault)
    → IfErr r P → MatchResult r (λ x. m ≡ Ok x) (λ e. IsErrAnd m (λ fault. fault ≡ Run e)) → is_ok m ≡ is_ok r → IfErr m (λ fault. IfOfRun fault P)
IfOfRun-map_err P r (Ok y) p c v = tt
IfOfRun-map_err P (Ok x) (Err d) p c v = absurd (false≢true v)
IfOfRun-map_err P (Err e) (Err d) p c v = let Q : Fault → Type 0 = λ fault. IfOfRun fault P in subst Q (sym c) p
