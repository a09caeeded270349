-- Laws of texts that are added part by part.
use Rattle.std.proofs.Common.{◌≡◌, ℕ, ◌+◌, ◌<◌, true, false, List, [], ◌∷◌, ◌++◌, Option, Result, Ok, Err, refl, sym, ap, ◌∙◌, append_assoc, append-nil, subst, take, drop, take-append-drop, length, get_or}
use Rattle.std.specs.List.{flat_map}
use Rattle.std.proofs.lemmas.List.{take_more}
use Rattle.std.proofs.lemmas.List.Concat.{flat_map-append}
use Rattle.std.specs.Io.KnownBytes.{Appends}
use Rattle.std.proofs.KnownBytes.{Appends-nil, Appends-trans}
use Rattle.mimic_printer.specs.declared.sink.Sink.{Sink}
use Rattle.mimic_printer.specs.Sink.{Adds, Ends, Puts, keeps_fault}
use Rattle.std.proofs.lemmas.List.{replicate-append-replicate}
use Rattle.mimic_trial.specs.Text.{spaces}

module _ {W : Type 0} {contents : W → Option (List ℕ)} where
  -- nothing is added
  pub adds_nothing : (s : Sink W) → Adds contents s s []
  adds_nothing s = record {
    front = [];
    rest = [];
    parts = refl;
    appended = Appends-nil (contents s.writer);
    faults = refl;
    whole = λ e. (e, refl);
    nothing = λ e. refl;
  }

  -- one text after another
  pub adds_then : {a b c : Sink W} (s t : List ℕ) → Adds contents a b s → Adds contents b c t → Adds contents a c (s ++ t)
  adds_then {a} {b} {c} s t p q = elim (keeps_fault b) as (λ k. keeps_fault b ≡ k → Adds contents a c (s ++ t)) [
    | true ↦ λ e. record {
      front = p.front;
      rest = p.rest ++ t;
      parts = ap (λ (l : List ℕ). l ++ t) p.parts ∙ append_assoc p.front p.rest t;
      appended = subst (Appends (contents a.writer) (contents c.writer)) (ap (λ (l : List ℕ). p.front ++ l) (q.nothing e) ∙ append-nil p.front) (Appends-trans _ _ _ p.front q.front p.appended q.appended);
      faults = q.faults ∙ p.faults;
      whole = λ f. absurd (cc ((q.whole f).0));
      nothing = p.nothing;
    }
    | false ↦ λ e. record {
      front = s ++ q.front;
      rest = q.rest;
      parts = ap (λ (l : List ℕ). s ++ l) q.parts ∙ sym (append_assoc s q.front q.rest);
      appended = Appends-trans _ _ _ s q.front (subst (Appends (contents a.writer) (contents b.writer)) (sym (p.parts ∙ ap (λ (l : List ℕ). p.front ++ l) (p.whole e).1 ∙ append-nil p.front)) p.appended) q.appended;
      faults = q.faults ∙ p.faults;
      whole = λ f. ((p.whole e).0, (q.whole f).1);
      nothing = λ f. absurd (cc ((p.whole e).0));
    }
  ] refl

  -- what was added up to a fault is a beginning of any longer text
  pub adds_more : {a b : Sink W} (s t : List ℕ) → keeps_fault b ≡ true → Adds contents a b s → Adds contents a b (s ++ t)
  adds_more {a} {b} s t e p = record {
    front = p.front;
    rest = p.rest ++ t;
    parts = ap (λ (l : List ℕ). l ++ t) p.parts ∙ append_assoc p.front p.rest t;
    appended = p.appended;
    faults = p.faults;
    whole = λ f. absurd (cc (e, f));
    nothing = p.nothing;
  }

  -- a text was added, and then the sink was ended
  pub puts_added : {E T : Type 0} {a b c : Sink W} (s : List ℕ) (r : Result T E) → Adds contents a b s → Ends b c r → Puts contents a c s r
  puts_added {a} {b} {c} s (Ok x) p q =
      let all = (p.whole q.counted.0).1 in
      let text : s ≡ p.front = p.parts ∙ ap (λ (l : List ℕ). p.front ++ l) all ∙ append-nil p.front in
      record {
        appended = subst (λ (w : W). Appends (contents a.writer) (contents w) s) (sym q.writer) (subst (Appends (contents a.writer) (contents b.writer)) (sym text) p.appended);
        faults = q.counted.1 ∙ p.faults;
      }
  puts_added {a} {b} {c} s (Err x) p q = record {
    front = p.front;
    rest = p.rest;
    beginning = p.parts;
    appended = subst (λ (w : W). Appends (contents a.writer) (contents w) p.front) (sym q.writer) p.appended;
    faults = q.counted ∙ ap (λ n. n + 1) p.faults;
  }

  -- a text, and then a flush
  pub adds_last : {a b c : Sink W} (s : List ℕ) → Adds contents a b s → Adds contents b c [] → Adds contents a c s
  adds_last {a} {b} {c} s p q = subst (Adds contents a c) (append-nil s) (adds_then s [] p q)

  -- some spaces and then some more
  pub adds_spaces : {a b c : Sink W} (i n m : ℕ) → m ≡ i + n → Adds contents a b (spaces i) → Adds contents b c (spaces n) → Adds contents a c (spaces m)
  adds_spaces {a} {b} {c} i n m e p q =
      subst (Adds contents a c) (replicate-append-replicate i n 32 ∙ ap spaces (sym e)) (adds_then (spaces i) (spaces n) p q)

-- ---- a text for each element of a list

module _ {W X : Type 0} {contents : W → Option (List ℕ)} (f : X → List ℕ) where
  -- one more element's text
  pub adds_next : {a b c : Sink W} (xs : List X) (i : ℕ) (d : X) → i < length xs → Adds contents a b (flat_map f (take i xs))
      → Adds contents b c (f (get_or xs i d)) → Adds contents a c (flat_map f (take (i + 1) xs))
  adds_next {a} {b} {c} xs i d h p q =
      let more : flat_map f (take (i + 1) xs) ≡ flat_map f (take i xs) ++ f (get_or xs i d) =
      ap (flat_map f) (take_more xs i d h) ∙ flat_map-append f (take i xs) (get_or xs i d ∷ []) ∙ ap (λ (l : List ℕ). flat_map f (take i xs) ++ l) (append-nil (f (get_or xs i d))) in
      subst (Adds contents a c) (sym more) (adds_then (flat_map f (take i xs)) (f (get_or xs i d)) p q)

  -- a loop stopped, since a fault is kept
  pub adds_rest : {a b : Sink W} (xs : List X) (i : ℕ) → keeps_fault b ≡ true → Adds contents a b (flat_map f (take i xs)) → Adds contents a b (flat_map f xs)
  adds_rest {a} {b} xs i e p =
      let split : flat_map f xs ≡ flat_map f (take i xs) ++ flat_map f (drop i xs) =
      ap (flat_map f) (sym (take-append-drop i xs)) ∙ flat_map-append f (take i xs) (drop i xs) in
      subst (Adds contents a b) (sym split) (adds_more (flat_map f (take i xs)) (flat_map f (drop i xs)) e p)
