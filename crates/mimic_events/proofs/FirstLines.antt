-- The first line end of a text, and what comes before it.
use Rattle.std.proofs.Common.{◌≡◌, ◌≢◌, ℕ, zero, suc, ◌+◌, ◌<◌, List, [], ◌∷◌, ◌++◌, get_or, take, ap, ◌∙◌, arith}
use Rattle.std.proofs.lemmas.List.{take_more}
use Rattle.std.proofs.lemmas.Bool.Decides.{nat_tests}
use Rattle.memchr.specs.Find.{IsFirstByte, is_byte}
use Rattle.std.specs.Prelude.{Some}
use Rattle.mimic_events.specs.Progress.{HasNoEnd, IsLine}

no_end_before : (bytes : List ℕ) (n : ℕ) → ((k : ℕ) → k < n → get_or bytes k 0 ≢ 10) → HasNoEnd (take n bytes)
no_end_before [] zero h = tt
no_end_before [] (suc n) h = tt
no_end_before (b ∷ bytes) zero h = tt
no_end_before (b ∷ bytes) (suc n) h = (h zero (omega arith), no_end_before bytes n (λ k lt. h (suc k) (omega arith)))

-- a search that found a line end found the first line
pub line_before : (bytes : List ℕ) (at : ℕ) → IsFirstByte (is_byte 10) bytes (Some at) → IsLine (take (at + 1) bytes)
line_before bytes at found =
    let end : get_or bytes at 0 ≡ 10 = grind (arith, nat_tests, found.1) in
    record {
      front = take at bytes;
      parts = take_more bytes at 0 found.0.high ∙ ap (λ (b : ℕ). take at bytes ++ b ∷ []) end;
      whole = no_end_before bytes at (λ k lt same. found.0.before k (omega arith) lt (grind (arith, nat_tests, same)));
    }
