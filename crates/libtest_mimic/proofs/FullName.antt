-- Lemmas on the places at which a pattern occurs in a full name: in two texts, one after the other.
use Rattle.std.proofs.Common.{◌≡◌, ◌∙◌, ℕ, ◌+◌, ◌-◌, ◌≤◌, ◌⊎◌, inl, inr, List, [], ◌∷◌, ◌++◌, length, drop, take, refl, sym, ap, ap₂, arith, append_assoc, append-nil, length-append, length-drop, take-append-drop}
use Rattle.std.proofs.lemmas.List.{drop_at, drop-append-le, drop-drop, get_or_append_left}
use Rattle.std.proofs.lemmas.List.Prefix.{at_from_reads, at_reads}
use Rattle.std.proofs.lemmas.Bool.{cases_lt}
use Rattle.libtest_mimic.specs.Prelude.{Occurs, OccursBefore, StandsAt}

-- a pattern that is at some place occurs
pub occurs_at : (p s : List ℕ) (at : ℕ) → StandsAt p s at → Occurs p s
occurs_at p s at h = (take at s, h.0, sym (take-append-drop at s) ∙ ap (λ x. take at s ++ x) h.1)

-- and a pattern that occurs is at some place
stands_somewhere : (p s : List ℕ) → Occurs p s → (at : ℕ) × (at ≤ length s) × StandsAt p s at
stands_somewhere p s h = (
  length h.0,
  (let e = ap length h.2 in omega (arith, e, length-append h.0 (p ++ h.1))),
  (h.1, ap (drop (length h.0)) h.2 ∙ drop_at h.0 (p ++ h.1) (length h.0) refl),
)

drop-append : (a b : List ℕ) (k : ℕ) → drop (length a + k) (a ++ b) ≡ drop k b
drop-append a b k = sym (drop-drop k (length a) (a ++ b)) ∙ ap (drop k) (drop_at a b (length a) refl)

-- what occurs in the second text occurs in both
pub occurs_second : (p a b : List ℕ) → Occurs p b → Occurs p (a ++ b)
occurs_second p a b h = (a ++ h.0, h.1, ap (λ x. a ++ x) h.2 ∙ sym (append_assoc a h.0 (p ++ h.1)))

-- what occurs in both begins in the first or occurs in the second
pub occurs_split : (p a b : List ℕ) → Occurs p (a ++ b) → OccursBefore p a b ⊎ Occurs p b
occurs_split p a b h = go (stands_somewhere p (a ++ b) h)
  where
    past : (at k : ℕ) → at ≡ length a + k → StandsAt p (a ++ b) at → Occurs p b
    past at k e s = occurs_at p b k (s.0, sym (drop-append a b k) ∙ (ap (λ n. drop n (a ++ b)) (sym e) ∙ s.1))

    go : ((at : ℕ) × (at ≤ length (a ++ b)) × StandsAt p (a ++ b) at) → OccursBefore p a b ⊎ Occurs p b
    go s = elim (cases_lt s.0 (length a)) [
      | inl lt ↦ inl (s.0, lt, s.2)
      | inr ge ↦ inr (past s.0 (s.0 - length a) (omega arith) s.2)
    ]

-- a pattern that ends in the first text is at a place there exactly if it is there in both
pub stands_short : (p a b : List ℕ) (at : ℕ) → at + length p ≤ length a
    → (StandsAt p a at → StandsAt p (a ++ b) at) × (StandsAt p (a ++ b) at → StandsAt p a at)
stands_short p a b at room = (
  (λ h. (h.0 ++ b, drop-append-le at a b (omega arith) ∙ (ap (λ x. x ++ b) h.1 ∙ append_assoc p h.0 b))),
  (λ h. (
    drop (at + length p) a,
    at_from_reads 0 a p at room
        (λ i lt. sym (get_or_append_left a b 0 (at + i) (omega arith)) ∙ at_reads 0 (a ++ b) p at h.0 h.1 i lt),
  )),
)

-- a text is its front and its back
parts_of : (n : ℕ) (s h t : List ℕ) → h ≡ take n s → t ≡ drop n s → s ≡ h ++ t
parts_of n s h t front back = sym (ap₂ (λ x y. x ++ y) front back ∙ take-append-drop n s)

none_left : (h r : List ℕ) (n : ℕ) → n ≡ length h → n ≡ length (h ++ r) → r ≡ []
none_left h [] n e f = refl
none_left h (x ∷ r) n e f = absurd (omega (arith, length-append h (x ∷ r)))

-- a pattern that is cut at the end of the first text is in both if its front is in the first text there and the second begins with the rest
stands_past : (p h t a b : List ℕ) (at : ℕ) → p ≡ h ++ t → at ≤ length a → at + length h ≡ length a
    → StandsAt h a at → (rest : List ℕ) → b ≡ t ++ rest → StandsAt p (a ++ b) at
stands_past p h t a b at cut le room s rest e =
    let none : s.0 ≡ [] = none_left h s.0 (length a - at) (omega arith) (sym (length-drop at a) ∙ ap length s.1) in
    let there : drop at a ≡ h = s.1 ∙ (ap (λ x. h ++ x) none ∙ append-nil h) in
    let whole : drop at (a ++ b) ≡ p ++ rest = drop-append-le at a b le ∙ (ap (λ x. x ++ b) there
    ∙ (ap (λ x. h ++ x) e ∙ (sym (append_assoc h t rest) ∙ ap (λ x. x ++ rest) (sym cut)))) in
    (rest, whole)

-- and only there
past_stands : (p h t a b : List ℕ) (at : ℕ) → p ≡ h ++ t → at ≤ length a → at + length h ≡ length a
    → StandsAt p (a ++ b) at → StandsAt h a at × ((rest : List ℕ) × (b ≡ t ++ rest))
past_stands p h t a b at cut le room s =
    let e : drop at (a ++ b) ≡ h ++ (t ++ s.0) = s.1 ∙ (ap (λ x. x ++ s.0) cut ∙ append_assoc h t s.0) in
    let first : StandsAt h a at = (stands_short h a b at (omega arith)).1 (t ++ s.0, e) in
    let second : b ≡ t ++ s.0 = sym (drop_at a b (at + length h) (sym room)) ∙ (sym (drop-drop (length h) at (a ++ b))
    ∙ (ap (drop (length h)) e ∙ drop_at h (t ++ s.0) (length h) refl)) in
    (first, (s.0, second))

-- both directions, for a pattern that was cut at the end of the first text
pub stands_cut : (p h t a b : List ℕ) (at n : ℕ) → h ≡ take n p → t ≡ drop n p → length h ≡ n → at + n ≡ length a
    → (StandsAt h a at → (rest : List ℕ) → b ≡ t ++ rest → StandsAt p (a ++ b) at) × (StandsAt p (a ++ b) at → StandsAt h a at × ((rest : List ℕ) × (b ≡ t ++ rest)))
stands_cut p h t a b at n front back all room =
    let cut = parts_of n p h t front back in
    let le : at ≤ length a = omega (arith, room) in
    let ends : at + length h ≡ length a = omega (arith, room, all) in
    (stands_past p h t a b at cut le ends, past_stands p h t a b at cut le ends)

-- a pattern that a text of the same length begins with is that text
pub whole_stands : (p s : List ℕ) → length p ≡ length s → StandsAt p s 0 → p ≡ s
whole_stands p s same h = sym (h.1 ∙ (ap (λ x. p ++ x) (none_left p h.0 (length s) (sym same) (ap length h.1)) ∙ append-nil p))

pub stands_whole : (p s : List ℕ) → p ≡ s → StandsAt p s 0
stands_whole p s e = ([], sym e ∙ sym (append-nil p))
