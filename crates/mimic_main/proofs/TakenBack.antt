-- A text that was put behind what waits, and of which only a front was written out.
use Rattle.std.proofs.Common.{◌≡◌, ◌+◌, ◌-◌, ◌≤◌, ◌<◌, ◌⊎◌, inl, inr, ℕ, List, [], ◌++◌, Option, Some, None, length, take, drop, sym, ap, subst, ◌∙◌, arith, append_assoc, append-nil}
use Rattle.std.proofs.lemmas.Bool.{cases_lt}
use Rattle.std.proofs.lemmas.List.{take-append-le, drop-append-le, length-append, length-drop, take-append-drop}
use Rattle.std.proofs.Math.Seq.{take-append-add, drop-append-add, take-append_seam}
use Rattle.std.specs.Io.KnownBytes.{Appends, Keeps, append_known}

-- to append nothing is to keep
pub Keeps-appended : (a b : Option (List ℕ)) (bs : List ℕ) → bs ≡ [] → Appends a b bs → Keeps a b
Keeps-appended None b bs e p = tt
Keeps-appended (Some x) None bs e p = absurd p
Keeps-appended (Some x) (Some y) bs e p = p ∙ ap (λ l. x ++ l) e ∙ append-nil x

-- all that waited was written out, and then s
all-gone : (a b : Option (List ℕ)) (w s : List ℕ) → Appends a b (w ++ s) → Appends (append_known a w) (append_known b []) s
all-gone None b w s p = tt
all-gone (Some x) None w s p = absurd p
all-gone (Some x) (Some y) w s p = append-nil y ∙ p ∙ sym (append_assoc x w s)

-- a front of what waited was written out
front-gone : (a b : Option (List ℕ)) (front rest w : List ℕ) → w ≡ front ++ rest → Appends a b front → Appends (append_known a w) (append_known b rest) []
front-gone None b front rest w e p = tt
front-gone (Some x) None front rest w e p = absurd p
front-gone (Some x) (Some y) front rest w e p = ap (λ l. l ++ rest) p ∙ append_assoc x front rest ∙ ap (λ l. x ++ l) (sym e) ∙ sym (append-nil (x ++ w))

-- what is left after `length w + k` bytes, of which `k` are of the text t
over : (a b : Option (List ℕ)) (w t left : List ℕ) (k : ℕ) → k ≤ length t → left ≡ drop (length w + k) (w ++ t) → Appends a b (take (length w + k) (w ++ t))
    → Appends (append_known a w) (append_known b (take (length left - length t) left)) (take (length t - length left) t)
over a b w t left k fits e p =
    let len : length left ≡ length t - k = ap length (e ∙ drop-append-add w t k) ∙ length-drop k t in
    let none : length left - length t ≡ 0 = omega (arith, len) in
    let some : length t - length left ≡ k = omega (arith, len) in
    let P : ℕ → Type 0 = λ i. Appends (append_known a w) (append_known b (take i left)) (take (length t - length left) t) in
    let Q : ℕ → Type 0 = λ i. Appends (append_known a w) (append_known b []) (take i t) in
    let gone : List ℕ → Type 0 = λ l. Appends a b l in
    subst P (sym none) (subst Q (sym some) (all-gone a b w (take k t) (subst gone (take-append-add w t k) p)))

within : (a b : Option (List ℕ)) (w t left : List ℕ) (n : ℕ) → n ≤ length w → left ≡ drop n (w ++ t) → Appends a b (take n (w ++ t))
    → Appends (append_known a w) (append_known b (take (length left - length t) left)) (take (length t - length left) t)
within a b w t left n fits e p =
    let split : left ≡ drop n w ++ t = e ∙ drop-append-le n w t fits in
    let len : length left ≡ length (drop n w) + length t = ap length split ∙ length-append (drop n w) t in
    let none : length t - length left ≡ 0 = omega (arith, len) in
    let some : length left - length t ≡ length (drop n w) = omega (arith, len) in
    let kept : take (length left - length t) left ≡ drop n w = ap (λ i. take i left) some ∙ ap (take (length (drop n w))) split ∙ take-append_seam (drop n w) t in
    let P : List ℕ → Type 0 = λ l. Appends (append_known a w) (append_known b l) (take (length t - length left) t) in
    let Q : ℕ → Type 0 = λ i. Appends (append_known a w) (append_known b (drop n w)) (take i t) in
    let gone : List ℕ → Type 0 = λ l. Appends a b l in
    subst P (sym kept) (subst Q (sym none) (front-gone a b (take n w) (drop n w) w (sym (take-append-drop n w)) (subst gone (take-append-le n w t fits) p)))

by-place : (a b : Option (List ℕ)) (w t left : List ℕ) (n : ℕ) → (length w < n) ⊎ (n ≤ length w) → n ≤ length (w ++ t) → left ≡ drop n (w ++ t) → Appends a b (take n (w ++ t))
    → Appends (append_known a w) (append_known b (take (length left - length t) left)) (take (length t - length left) t)
by-place a b w t left n (inl more) fits e p =
    let k = n - length w in
    let same : n ≡ length w + k = omega arith in
    let short : k ≤ length t = omega (arith, length-append w t) in
    let E : ℕ → Type 0 = λ i. left ≡ drop i (w ++ t) in
    let P : ℕ → Type 0 = λ i. Appends a b (take i (w ++ t)) in
    over a b w t left k short (subst E same e) (subst P same p)
by-place a b w t left n (inr less) fits e p = within a b w t left n less e p

-- the first n bytes of what waited and the text t were written out, and what is left of t is taken back
pub taken-back : (a b : Option (List ℕ)) (w t left : List ℕ) (n : ℕ) → n ≤ length (w ++ t) → left ≡ drop n (w ++ t) → Appends a b (take n (w ++ t))
    → Appends (append_known a w) (append_known b (take (length left - length t) left)) (take (length t - length left) t)
taken-back a b w t left n fits e p = by-place a b w t left n (cases_lt (length w) n) fits e p
