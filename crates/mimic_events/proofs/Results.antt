-- Results of which more is known.
use Rattle.std.proofs.Common.{◌≡◌, MatchResult, Result, Ok, Err, subst, sym}
use Rattle.std.specs.Result.{IsErrAnd}

module _ {T E : Type 0} where
  -- a result that is this fault
  pub at_fault : (P : Result T E → Type 0) (result : Result T E) (fault : E)
      → IsErrAnd result (λ f. f ≡ fault) → P (Err fault) → P result
  at_fault P (Ok x) fault h p = absurd h
  at_fault P (Err f) fault h p = subst (λ g. P (Err g)) (sym h) p

  -- a call that returned this fault
  pub on_error : (result : Result T E) (fault : E) (P : T → Type 0) (Q : E → Type 0) → IsErrAnd result (λ f. f ≡ fault) → Q fault → MatchResult result P Q
  on_error result fault P Q h q = at_fault (λ r. MatchResult r P Q) result fault h q
