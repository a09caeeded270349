-- Names that are kept one after another.
use Rattle.std.proofs.Common.{◌≡◌, ◌∙◌, ℕ, zero, suc, ◌+◌, ◌-◌, ◌<◌, ◌≤◌, List, [], ◌∷◌, ◌++◌, None, Some, length, length-append, refl, ap, ap₂, arith, drop, take}
use Rattle.std.specs.Prelude.{slice_get, slice_index_or}
use Rattle.std.proofs.Math.Seq.{drop-append_seam}
use Rattle.std.proofs.lemmas.List.{drop-append-le, take-append-le, take_all, length-drop}
use Rattle.mimic_main.specs.FullNames.{AreEnds, parts_of}

-- no part ends behind the text
ends_within : (len start : ℕ) (ends : List ℕ) → AreEnds len start ends → start ≤ len
ends_within len start [] are = omega (arith, are)
ends_within len start (end ∷ ends) are = omega (arith, are.0, ends_within len end ends are.1)

-- a text behind the others leaves a part as it is
part_same : (text more : List ℕ) (start end : ℕ) → start ≤ end → end ≤ length text → take (end - start) (drop start (text ++ more)) ≡ take (end - start) (drop start text)
part_same text more start end below within =
    ap (take (end - start)) (drop-append-le start text more (omega (arith, below, within)))
    ∙ take-append-le (end - start) (drop start text) more (omega (arith, length-drop start text, below, within))

last_part : (text more : List ℕ) (start len : ℕ) → start ≡ length text → len ≡ length text + length more → take (len - start) (drop start (text ++ more)) ≡ more
last_part text more start len at all =
    ap₂ (λ n l. take n l) (omega (arith, at, all)) (ap (λ n. drop n (text ++ more)) at ∙ drop-append_seam text more)
    ∙ take_all (length more) more (omega arith)

parts_more : (text more : List ℕ) (start : ℕ) (ends : List ℕ) → AreEnds (length text) start ends
    → AreEnds (length text + length more) start (ends ++ (length text + length more) ∷ [])
    × (parts_of (text ++ more) start (ends ++ (length text + length more) ∷ []) ≡ parts_of text start ends ++ more ∷ [])
parts_more text more start [] are = ((omega (arith, are), refl), ap (λ l. l ∷ []) (last_part text more start (length text + length more) are refl))
parts_more text more start (end ∷ ends) are =
    let rest = parts_more text more end ends are.1 in
    ((are.0, rest.0), ap₂ (λ x l. x ∷ l) (part_same text more start end are.0 (ends_within (length text) end ends are.1)) rest.1)

-- one part more
pub one_more : (text more new : List ℕ) (ends ends' : List ℕ) (len : ℕ) → AreEnds (length text) 0 ends → new ≡ text ++ more → len ≡ length new → ends' ≡ ends ++ len ∷ []
    → AreEnds (length new) 0 ends' × (parts_of new 0 ends' ≡ parts_of text 0 ends ++ more ∷ [])
one_more text more new ends ends' len are is all pushed =
    let size : len ≡ length text + length more = all ∙ ap length is ∙ length-append text more in
    rw (pushed, size, is, length-append) (parts_more text more 0 ends are)

-- the part at a place begins where the one before ends
pub record IsPart (text : List ℕ) (start : ℕ) (ends : List ℕ) (place : ℕ) : Type 0 where
  pub rising : slice_index_or (start ∷ ends) place 0 ≤ slice_index_or ends place 0
  pub within : slice_index_or ends place 0 ≤ length text
  pub part : slice_get (parts_of text start ends) place
      ≡ Some (take (slice_index_or ends place 0 - slice_index_or (start ∷ ends) place 0) (drop (slice_index_or (start ∷ ends) place 0) text))

pub part_at : (text : List ℕ) (start : ℕ) (ends : List ℕ) (place : ℕ) → AreEnds (length text) start ends → place < length ends → IsPart text start ends place
part_at text start [] place are low = absurd (omega arith)
part_at text start (end ∷ ends) zero are low = record { rising = are.0; within = ends_within (length text) end ends are.1; part = refl }
part_at text start (end ∷ ends) (suc place) are low =
    let rest = part_at text end ends place are.1 (omega arith) in
    record { rising = rest.rising; within = rest.within; part = rest.part }

-- there is no part behind the last
pub none_at : (text : List ℕ) (start : ℕ) (ends : List ℕ) (place : ℕ) → length ends ≤ place → slice_get (parts_of text start ends) place ≡ None
none_at text start [] place all = refl
none_at text start (end ∷ ends) zero all = absurd (omega arith)
none_at text start (end ∷ ends) (suc place) all = none_at text end ends place (omega arith)

-- there are as many parts as ends
pub length-parts : (text : List ℕ) (start : ℕ) (ends : List ℕ) → length (parts_of text start ends) ≡ length ends
length-parts text start [] = refl
length-parts text start (end ∷ ends) = ap suc (length-parts text end ends)
