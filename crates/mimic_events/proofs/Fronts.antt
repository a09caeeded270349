-- What is at the front of a text, part by part.
use Rattle.std.proofs.Common.{◌≡◌, ◌≢◌, ℕ, suc, ◌+◌, ◌<◌, ◌≤◌, List, ◌++◌, Option, Some, None, MatchOption, Bor, drop, drop-cons, get_or, length, map, refl, sym, ap, subst, ◌∙◌, append_assoc, arith}
use Rattle.std.specs.List.{concat}
use Rattle.std.proofs.lemmas.List.{append_cancel_left, drop_all}
use Rattle.mimic_events.specs.LineParts.{Follows}

-- after the first part of a front
behind : (a b text rest more : List ℕ) → text ≡ a ++ rest → text ≡ (a ++ b) ++ more → rest ≡ b ++ more
behind a b text rest more e f = append_cancel_left a rest (b ++ more) (sym e ∙ f ∙ append_assoc a b more)

-- a front whose first part is there, by what follows that part
pub follows_then : (a b text rest : List ℕ) (o : Option (Bor (List ℕ))) → text ≡ a ++ rest → Follows b rest o → Follows (a ++ b) text o
follows_then a b text rest None e h = λ more f. h more (behind a b text rest more e f)
follows_then a b text rest (Some r) e h = e ∙ ap (λ (x : List ℕ). a ++ x) h ∙ sym (append_assoc a b r.now)

-- a front whose first part isn't there
pub follows_stop : (a b text : List ℕ) → ((rest : List ℕ) → text ≢ a ++ rest) → Follows (a ++ b) text None
follows_stop a b text h = λ more f. h (b ++ more) (f ∙ append_assoc a b more)

-- what a search for a front returns
pub follows_after : (front known text : List ℕ) (o : Option (Bor (List ℕ))) → front ≡ known → MatchOption o ((rest : List ℕ) → text ≢ front ++ rest) (λ rest. text ≡ front ++ rest.now) → Follows known text o
follows_after front known text None e h = λ rest f. h rest (f ∙ ap (λ (x : List ℕ). x ++ rest) (sym e))
follows_after front known text (Some r) e h = h ∙ ap (λ (x : List ℕ). x ++ r.now) e

-- ---- several fronts

abbrev pub all_of : List (Bor (List ℕ)) → List ℕ
all_of fronts = concat (map (λ front. front.now) fronts)

-- after one of them
pub follows_next : (fronts : List (Bor (List ℕ))) (i : ℕ) (d : Bor (List ℕ)) (text rest : List ℕ) (o : Option (Bor (List ℕ))) → i < length fronts → text ≡ (get_or fronts i d).now ++ rest
    → Follows (all_of (drop (i + 1) fronts)) rest o → Follows (all_of (drop i fronts)) text o
follows_next fronts i d text rest o lt e h =
    let one : suc i ≡ i + 1 = omega arith in
    let parts : all_of (drop i fronts) ≡ (get_or fronts i d).now ++ all_of (drop (i + 1) fronts) =
    ap all_of (drop-cons fronts i d lt) ∙ ap (λ (k : ℕ). (get_or fronts i d).now ++ all_of (drop k fronts)) one in
    subst (λ (front : List ℕ). Follows front text o) (sym parts) (follows_then (get_or fronts i d).now (all_of (drop (i + 1) fronts)) text rest o e h)

-- after the last of them
pub follows_last : (fronts : List (Bor (List ℕ))) (i : ℕ) (rest : Bor (List ℕ)) → length fronts ≤ i → Follows (all_of (drop i fronts)) rest.now (Some rest)
follows_last fronts i rest le = rw (drop_all i fronts le) refl
