-- Lemmas on calls that write to a sink.
use Rattle.std.proofs.Common.{◌≡◌, ℕ, ◌+◌, List, [], ◌++◌, Option, refl, sym, ap, ◌∙◌, append_assoc, take, drop, take-append-drop, arith, ◌≤◌, ◌-◌, length, length-drop}
use Rattle.std.proofs.lemmas.List.{take_all, take-replicate}
use Rattle.std.specs.Prelude.{replicate}
use Rattle.mimic_trial.specs.Text.{spaces}
use Rattle.std.specs.Io.KnownBytes.{Appends}
use Rattle.std.proofs.KnownBytes.{Appends-nil, Appends-trans}
use Rattle.mimic_printer.specs.Sink.{Shown, Put, Stopped}

-- nothing was appended
pub Put-refl : (s : Shown) → Put s s []
Put-refl s = record { appended = Appends-nil s.bytes; faults = refl }

-- one text after another
pub Put-trans : {a b c : Shown} (s t : List ℕ) → Put a b s → Put b c t → Put a c (s ++ t)
Put-trans {a} {b} {c} s t p q = record {
  appended = Appends-trans a.bytes b.bytes c.bytes s t p.appended q.appended;
  faults = q.faults ∙ p.faults;
}

-- a text, and then a beginning of another
pub Put-Stopped : {a b c : Shown} (s t : List ℕ) → Put a b s → Stopped b c t → Stopped a c (s ++ t)
Put-Stopped {a} {b} {c} s t p q = record {
  front = s ++ q.front;
  rest = q.rest;
  beginning = ap (λ l. s ++ l) q.beginning ∙ sym (append_assoc s q.front q.rest);
  appended = Appends-trans a.bytes b.bytes c.bytes s q.front p.appended q.appended;
  faults = q.faults ∙ ap (λ n. n + 1) p.faults;
}

-- the part of a piece that is still to be written: what came before it was appended
abbrev pub Gone : (a b : Option (List ℕ)) (piece rest : List ℕ) → Type 0
Gone a b piece rest = (done : List ℕ) × (piece ≡ done ++ rest) × Appends a b done

-- a write took the first n bytes of the rest
pub Gone-write : (a b c : Option (List ℕ)) (piece rest : List ℕ) (n : ℕ) → n ≤ length rest → Gone a b piece rest → Appends b c (take n rest) → Gone a c piece (take (length rest - n) (drop n rest))
Gone-write a b c piece rest n h p q =
    let shown : take (length rest - n) (drop n rest) ≡ drop n rest = take_all (length rest - n) (drop n rest) (omega (arith, length-drop n rest)) in
    let split : rest ≡ take n rest ++ drop n rest = sym (take-append-drop n rest) in (
      p.0 ++ take n rest,
      p.1 ∙ ap (λ l. p.0 ++ l) split ∙ sym (append_assoc p.0 (take n rest) (drop n rest)) ∙ ap (λ l. (p.0 ++ take n rest) ++ l) (sym shown),
      Appends-trans a b c p.0 (take n rest) p.2 q,
    )

-- `n` of the spaces that are written at once
pub take-blanks : (n : ℕ) → n ≤ 32 → take n (replicate 32 32) ≡ spaces n
take-blanks n h = take-replicate n 32 32 h
