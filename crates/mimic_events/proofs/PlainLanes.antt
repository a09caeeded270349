-- Bytes that need no escape, many looked at at once.
use Rattle.std.proofs.Common.{◌≡◌, ℕ, suc, ◌+◌, ◌%◌, ◌^◌, ◌<◌, ◌≤◌, eqb, ltb, Bool, true, false, not, ◌&&◌, ◌||◌, List, [], ◌∷◌, ◌++◌, Option, Some, None, MatchOption, map, length, get_or, min, take, drop, Fits, w8, sym, ap, ◌∙◌, subst, arith, inl, inr, take-add, take_all, length-take, get_or-take, get_or-drop}
use Rattle.std.specs.List.{prefix_len}
use Rattle.std.proofs.lemmas.Bool.{agree_below, agree_below_at, not-true, cases_eq}
use Rattle.std.proofs.lemmas.Bool.Decides.{nat_tests}
use Rattle.std.proofs.lemmas.List.{length-map}
use Rattle.std.proofs.lemmas.List.Sums.{prefix_len_passes}
use Rattle.std.proofs.lemmas.Simd.{map-map, mask_l-mod, length-chunk, get_or-chunk, leading_from_mask_l, trailing_mask_l}
use lib.Count.{count_trailing_zeros}
use lib.Lanes.{chunk, mask_l, top}
use Rattle.std.specs.Option.{unwrap_or}
use Rattle.mimic_trial.specs.Escape.{ArePlain, NeedsEscape, escape}

-- ---- one byte

abbrev pub is_plain : ℕ → Bool
is_plain b = not (ltb b 32) && (not (eqb b 34) && not (eqb b 92))

plain_byte : (b : ℕ) → is_plain b ≡ true → escape b ≡ b ∷ []
plain_byte b h = grind (arith, nat_tests)

-- ---- a text

plain_each : (text : List ℕ) → ((k : ℕ) → k < length text → escape (get_or text k 0) ≡ get_or text k 0 ∷ []) → ArePlain text
plain_each [] h = tt
plain_each (b ∷ text) h = (h 0 (omega arith), plain_each text (λ k lt. h (suc k) (omega (arith, lt))))

plain_append : (a b : List ℕ) → ArePlain a → ArePlain b → ArePlain (a ++ b)
plain_append [] b p q = q
plain_append (x ∷ a) b p q = (p.0, plain_append a b p.1 q)

-- a front, and some more behind it
pub plain_more : (text : List ℕ) (at more : ℕ) → ArePlain (take at text) → ArePlain (take more (drop at text)) → ArePlain (take (at + more) text)
plain_more text at more p q = subst ArePlain (sym (take-add at more text)) (plain_append (take at text) (take more (drop at text)) p q)

-- ---- from the mask of one load to the bytes

module _ (text : List ℕ) (at r : ℕ) (z : List ℕ) (room : at + 16 ≤ length text) (fits : (k : ℕ) → Fits w8 (get_or text k 0))
    (found : r ≡ min (count_trailing_zeros 64 (mask_l (map (top 7) z) % 2 ^ 64)) 16)
    (f : ℕ → ℕ) (lanes : z ≡ map f (chunk at 16 text)) where
  abbrev stops : ℕ → Bool
  stops x = top 7 (f x)

  pub few : r ≤ 16
  few = omega (arith, found)

  low : r ≤ count_trailing_zeros 64 (mask_l (map (top 7) z) % 2 ^ 64)
  low = omega (arith, found)

  abbrev here : List ℕ
  here = chunk at 16 text

  long : length here ≡ 16
  long = length-chunk at 16 text room

  mask : mask_l (map (top 7) z) % 2 ^ 64 ≡ mask_l (map stops here)
  mask = ap (λ l. mask_l l % 2 ^ 64) (ap (map (top 7)) lanes ∙ map-map (top 7) f here) ∙ mask_l-mod (map stops here) 64 (omega (arith, length-map here stops, long))

  below : r ≤ prefix_len (λ x. not (stops x)) here
  below = elim (cases_eq (mask_l (map stops here)) 0) [
    | inl none ↦ omega (arith, leading_from_mask_l stops here none, long, few)
    | inr some ↦ omega (arith, trailing_mask_l stops 64 here (omega (arith, long)) (omega (arith, some)), subst (λ m. r ≤ count_trailing_zeros 64 m) mask low)
  ]

  goes_on : (k : ℕ) → k < r → stops (get_or text (at + k) 0) ≡ false
  goes_on k lt = subst (λ x. stops x ≡ false) (get_or-chunk at 16 text k 0 (omega (arith, few)))
      (not-true _ (prefix_len_passes (λ x. not (stops x)) here k 0 (omega (arith, below))))

  pub plain_in : agree_below (λ x. stops x || is_plain x) (λ _. true) 256 ≡ true → ArePlain (take r (drop at text))
  plain_in all = plain_each (take r (drop at text)) (λ k lt.
      let near : k < r = omega (arith, lt, length-take r (drop at text)) in
      let byte : is_plain (get_or text (at + k) 0) ≡ true =
      sym (ap (λ b. b || is_plain (get_or text (at + k) 0)) (goes_on k near)) ∙ agree_below_at (λ x. stops x || is_plain x) (λ _. true) 256 (get_or text (at + k) 0) all (fits (at + k)).fits in
      let same : get_or (take r (drop at text)) k 0 ≡ get_or text (at + k) 0 = get_or-take r (drop at text) k 0 near ∙ get_or-drop at text k 0 in
      subst (λ x. escape x ≡ x ∷ []) (sym same) (plain_byte (get_or text (at + k) 0) byte))

-- ---- the last bytes, one by one

pub plain_rest : (text : List ℕ) (at n : ℕ) (o : Option ℕ) (rest : List ℕ) → rest ≡ drop at text → n ≡ unwrap_or o (length rest) → ArePlain (take at text)
    → MatchOption o (ArePlain rest) (λ k. (k < length rest) × NeedsEscape (get_or rest k 0) × ArePlain (take k rest)) → ArePlain (take (at + n) text)
plain_rest text at n None rest e s p h = plain_more text at n p (subst ArePlain (e ∙ sym (take_all n (drop at text) (omega (arith, s, ap length e)))) h)
plain_rest text at n (Some k) rest e s p h = plain_more text at n p (subst ArePlain (ap (take k) e ∙ ap (λ (m : ℕ). take m (drop at text)) (sym s)) h.2)
