-- Texts that are written with their escapes, and what is between these at once.
use Rattle.std.proofs.Common.{false, None, Some, is_some, MatchOption, ◌≡◌, ℕ, suc, ◌+◌, ◌-◌, ◌<◌, ◌≤◌, List, [], ◌∷◌, ◌++◌, Option, length, get_or, take, drop, drop-cons, take-append-drop, length-drop, length-take-le, refl, sym, ap, ◌∙◌, subst, arith, append_assoc, append-nil}
use Rattle.std.proofs.lemmas.List.{take_all}
use Rattle.std.proofs.lemmas.List.Concat.{flat_map-append}
use Rattle.mimic_printer.specs.declared.sink.Sink.{Sink}
use Rattle.mimic_printer.specs.Sink.{Adds}
use Rattle.mimic_trial.specs.Escape.{ArePlain, escape, escaped}
use Rattle.mimic_trial.proofs.Escapes.{escaped-plain}
use Rattle.mimic_printer.proofs.Adding.{adds_nothing, adds_then}

-- ---- what is left of a text

-- of the whole text this is left to be added
pub record AddedSoFar {W : Type 0} (contents : W → Option (List ℕ)) (old new : Sink W) (whole left : List ℕ) : Type 0 where
  pub done : List ℕ
  pub parts : whole ≡ done ++ left
  pub added : Adds contents old new done

pub added_none : {W : Type 0} {contents : W → Option (List ℕ)} (s : Sink W) (text : List ℕ) → AddedSoFar contents s s text text
added_none s text = record { done = []; parts = refl; added = adds_nothing s }

module _ {W : Type 0} {contents : W → Option (List ℕ)} {whole left : List ℕ} where
  -- what comes before the next escape, and the escape
  pub added_more : {a b c d : Sink W} {front mark more : List ℕ} → left ≡ front ++ (mark ++ more) → AddedSoFar contents a b whole left
      → Adds contents b c front → Adds contents c d mark → AddedSoFar contents a d whole more
  added_more {front} {mark} split h p q = record {
    done = h.done ++ (front ++ mark);
    parts = h.parts ∙ ap (λ (l : List ℕ). h.done ++ l) split ∙ simp append_assoc;
    added = adds_then h.done (front ++ mark) h.added (adds_then front mark p q);
  }

  -- what is left
  pub added_rest : {a b c : Sink W} {rest : List ℕ} → left ≡ rest → AddedSoFar contents a b whole left → Adds contents b c rest → Adds contents a c whole
  added_rest {a} {b} {c} {rest} e h p = subst (Adds contents a c) (ap (λ (l : List ℕ). h.done ++ l) (sym e) ∙ sym h.parts) (adds_then h.done rest h.added p)

-- what follows a place is no longer than the text
pub shorter : (text : List ℕ) (at : ℕ) → length (take (length text - at) (drop at text)) ≤ length text
shorter text at = omega (arith, length-take-le (length text - at) (drop at text) (omega (arith, length-drop at text)))

-- ---- appending

-- of the whole text this is left to be appended
pub record AppendedSoFar (old new whole left : List ℕ) : Type 0 where
  pub done : List ℕ
  pub parts : whole ≡ done ++ left
  pub appended : new ≡ old ++ done

pub nothing_appended : (old whole : List ℕ) → AppendedSoFar old old whole whole
nothing_appended old whole = record { done = []; parts = refl; appended = sym (append-nil old) }

pub more_appended : (old a b c whole left front mark more : List ℕ) → left ≡ front ++ (mark ++ more) → AppendedSoFar old a whole left
    → b ≡ a ++ front → c ≡ b ++ mark → AppendedSoFar old c whole more
more_appended old a b c whole left front mark more split h p q = record {
  done = h.done ++ (front ++ mark);
  parts = h.parts ∙ ap (λ (l : List ℕ). h.done ++ l) split ∙ simp append_assoc;
  appended = q ∙ ap (λ (l : List ℕ). l ++ mark) (p ∙ ap (λ (l : List ℕ). l ++ front) h.appended) ∙ simp append_assoc;
}

pub rest_appended : (old a b whole left rest : List ℕ) → AppendedSoFar old a whole left → left ≡ rest → b ≡ a ++ rest → b ≡ old ++ whole
rest_appended old a b whole left rest h e p =
    p ∙ ap (λ (l : List ℕ). l ++ rest) h.appended ∙ append_assoc old h.done rest ∙ ap (λ (l : List ℕ). old ++ l) (ap (λ (l : List ℕ). h.done ++ l) (sym e) ∙ sym h.parts)

-- ---- JSON

escaped-append : (a b : List ℕ) → escaped (a ++ b) ≡ escaped a ++ escaped b
unfolding escaped
escaped-append a b = flat_map-append escape a b

escaped-one : (b : ℕ) → escaped (b ∷ []) ≡ escape b
unfolding escaped
escaped-one b = append-nil (escape b)

-- the text up to an escape, the escape, and what follows it
pub json_split : (rest : List ℕ) (at : ℕ) → at < length rest → ArePlain (take at rest)
    → escaped rest ≡ take at rest ++ (escape (get_or rest at 0) ++ escaped (take (length rest - (at + 1)) (drop (at + 1) rest)))
json_split rest at h plain =
    let b = get_or rest at 0 in
    let next : suc at ≡ at + 1 = omega arith in
    let behind : take (length rest - (at + 1)) (drop (at + 1) rest) ≡ drop (suc at) rest =
    take_all (length rest - (at + 1)) (drop (at + 1) rest) (omega (arith, length-drop (at + 1) rest)) ∙ ap (λ n. drop n rest) (sym next) in
    ap escaped (sym (take-append-drop at rest) ∙ ap (λ l. take at rest ++ l) (drop-cons rest at 0 h))
    ∙ escaped-append (take at rest) (b ∷ drop (suc at) rest)
    ∙ ap (λ l. l ++ escaped (b ∷ drop (suc at) rest)) (escaped-plain _ plain)
    ∙ ap (λ l. take at rest ++ l) (escaped-append (b ∷ []) (drop (suc at) rest) ∙ ap (λ l. l ++ escaped (drop (suc at) rest)) (escaped-one b))
    ∙ ap (λ l. take at rest ++ (escape b ++ escaped l)) (sym behind)

-- a text in which no byte needs an escape is spelled as it is
pub spelled_as_is : (text : List ℕ) (P : ℕ → Type 0) (o : Option ℕ) → is_some o ≡ false → MatchOption o (ArePlain text) P → escaped text ≡ text
spelled_as_is text P None h p = escaped-plain text p
spelled_as_is text P (Some at) h p = absurd cc
