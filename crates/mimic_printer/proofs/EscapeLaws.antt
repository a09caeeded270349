-- The laws of spellings.
use Rattle.std.proofs.Common.{◌≡◌, ◌≢◌, ◌&&◌, ◌||◌, not, eqb, codes, ℕ, zero, suc, Bool, true, false, List, [], ◌∷◌, ◌++◌, Some, None, take, drop, take-append-drop, refl, sym, ap, ap₂, ◌∙◌, arith, inl, inr, ◌⊎◌}
use Rattle.std.specs.List.{list_any}
use Rattle.std.specs.Str.{bytes_eq}
use Rattle.std.proofs.lemmas.Bool.{eqb-true}
use Rattle.std.proofs.lemmas.List.Folds.{list_any-append}
use Rattle.std.proofs.lemmas.Bool.Decides.{nat_tests}
use Rattle.std.proofs.lemmas.Slice.Eq.{bytes_eq-Decides}
use Rattle.mimic_printer.specs.declared.place.Place.{Place}
use Rattle.mimic_printer.specs.declared.place.Place.TheVariants.{Line, Terminal}
use Rattle.mimic_printer.specs.Places.{has_markup, is_control, is_forbidden}
use Rattle.mimic_printer.specs.Escapes.{begins_number, escaped, escaped_after, front}
use Rattle.mimic_printer.specs.EscapeLaws.{EscapeLaws, HasNoControl, IsHarmless, begins_mark, ends_mark, entities, is_harmless, unescaped, unescaped_after}
use Rattle.mimic_printer.proofs.Fronts.{and_both, begun_by, decoded, ends_once, fine, front_fine, not_true}

-- ---- a spelling can be unescaped

module _ (place : Place) where
  through : (mark t rest : List ℕ) → ends_once t ≡ true → unescaped_after place (Some mark) (t ++ rest) ≡ decoded mark t ++ unescaped_after place None rest
  unfolding unescaped_after ends_once decoded
  through mark [] rest h = absurd cc
  through mark (e ∷ []) rest h = rw h refl
  through mark (x ∷ y ∷ t) rest h =
      let both = and_both (not (ends_mark x)) (ends_once (y ∷ t)) h in
      rw (not_true (ends_mark x) both.0) (through (mark ++ x ∷ []) (y ∷ t) rest both.1)

  plain : (b : ℕ) (rest : List ℕ) → begins_mark place b rest ≡ false → unescaped place (b ∷ rest) ≡ b ∷ unescaped place rest
  unfolding unescaped_after
  plain b rest h = rw h refl

  marked : (m : ℕ) (t rest : List ℕ) → begins_mark place m (t ++ rest) ≡ true → ends_once t ≡ true → unescaped place (m ∷ t ++ rest) ≡ decoded (m ∷ []) t ++ unescaped place rest
  unfolding unescaped_after
  marked m t rest h e = rw h (through (m ∷ []) t rest e)

  -- a byte that is allowed there begins no entity
  allowed : (m : ℕ) → is_forbidden place m ≡ false → (eqb m 38 && has_markup place) ≡ false
  allowed m h = decide (eqb m 38) refl
    where
      decide : (p : Bool) → eqb m 38 ≡ p → (p && has_markup place) ≡ false
      decide false e = refl
      decide true e = sym (ap (is_forbidden place) (eqb-true m 38 e)) ∙ h

  -- it can be unescaped, unless it is a byte that begins a number together with what follows
  fine_back : (s o rest : List ℕ) (b : ℕ) (more : List ℕ) → o ≡ b ∷ more → fine place s o ≡ true
      → (more ≡ [] → begins_number (b ∷ rest) ≡ false) ⊎ (s ≡ codes "\\u{5c}")
      → unescaped place (s ++ rest) ≡ o ++ unescaped place rest
  unfolding fine
  fine_back [] o rest b more is h n = absurd cc
  fine_back (m ∷ []) o rest b more is h n =
      let both = and_both (bytes_eq (m ∷ []) o) (not (is_forbidden place m)) h in
      let same : m ∷ [] ≡ o = (bytes_eq-Decides (m ∷ []) o).0 both.0 in
      let byte : m ≡ b = cc in
      let number : begins_number (m ∷ rest) ≡ false = ap (λ (k : ℕ). begins_number (k ∷ rest)) byte ∙ no_number n cc in
      plain m rest (rw (allowed m (not_true (is_forbidden place m) both.1), number) refl) ∙ ap (λ (l : List ℕ). l ++ unescaped place rest) same
    where
      no_number : (more ≡ [] → begins_number (b ∷ rest) ≡ false) ⊎ (m ∷ [] ≡ codes "\\u{5c}") → more ≡ [] → begins_number (b ∷ rest) ≡ false
      no_number (inl f) e = f e
      no_number (inr e) z = absurd cc
  fine_back (m ∷ x ∷ []) o rest b more is h n = absurd cc
  fine_back (m ∷ x ∷ y ∷ t) o rest b more is h n =
      let first = and_both (begins_mark place m (x ∷ y ∷ t)) _ h in
      let ends = and_both (ends_once (x ∷ y ∷ t)) _ first.1 in
      let last = and_both (bytes_eq (decoded (m ∷ []) (x ∷ y ∷ t)) o) (is_harmless place (m ∷ x ∷ y ∷ t)) ends.1 in
      marked m (x ∷ y ∷ t) rest first.0 ends.0 ∙ ap (λ (l : List ℕ). l ++ unescaped place rest) ((bytes_eq-Decides _ _).0 last.0)

  -- ---- a spelling that begins with another byte than `&` and a backslash is that byte

  begins_it : (m x y : ℕ) (t : List ℕ) → begins_mark place m (x ∷ y ∷ t) ≡ true → (m ≡ 38) ⊎ (m ≡ 92)
  begins_it m x y t h = grind (arith, nat_tests)

  fine_alone : (s : List ℕ) (b h : ℕ) (more after t : List ℕ) → fine place s (b ∷ more) ≡ true → s ++ after ≡ h ∷ t → h ≢ 38 → h ≢ 92 → (b ≡ h) × (more ≡ []) × (after ≡ t)
  unfolding fine
  fine_alone [] b h more after t f e n k = absurd cc
  fine_alone (x ∷ []) b h more after t f e n k =
      let both = and_both (bytes_eq (x ∷ []) (b ∷ more)) (not (is_forbidden place x)) f in
      let same : x ∷ [] ≡ b ∷ more = (bytes_eq-Decides _ _).0 both.0 in
      (cc, cc, cc)
  fine_alone (x ∷ y ∷ []) b h more after t f e n k = absurd cc
  fine_alone (x ∷ y ∷ z ∷ s) b h more after t f e n k =
      let first = and_both (begins_mark place x (y ∷ z ∷ s)) _ f in
      let head : x ≡ h = cc in
      elim (begins_it x y z s first.0) [
        | inl i ↦ absurd (n (sym head ∙ i))
        | inr i ↦ absurd (k (sym head ∙ i))
      ]

  none_skipped : (k : ℕ) (rest : List ℕ) → take k rest ≡ [] → escaped_after k place rest ≡ escaped place rest
  unfolding escaped_after
  none_skipped zero rest h = refl
  none_skipped (suc k) [] h = refl
  none_skipped (suc k) (b ∷ rest) h = absurd cc

  first_of : (text : List ℕ) (h : ℕ) (t : List ℕ) → escaped place text ≡ h ∷ t → h ≢ 38 → h ≢ 92 → (rest : List ℕ) × (text ≡ h ∷ rest) × (escaped place rest ≡ t)
  unfolding escaped_after
  first_of [] h t e n k = absurd cc
  first_of (b ∷ rest) h t e n k =
      let f = front place (b ∷ rest) in
      let one = fine_alone f.0 b h (take f.1 rest) (escaped_after f.1 place rest) t (front_fine place b rest).is_fine e n k in
      (rest, ap (λ (c : ℕ). c ∷ rest) one.0, sym (none_skipped f.1 rest one.1) ∙ one.2)

  -- ---- the whole text

  number_parts : (b : ℕ) (rest : List ℕ) → begins_number (b ∷ rest) ≡ true → (more : List ℕ) × (b ≡ 92) × (rest ≡ 117 ∷ 123 ∷ more)
  number_parts b rest h = let begun = begun_by 92 117 123 (b ∷ rest) h in let is = begun.1 in (begun.0, cc, cc)

  -- what follows a byte doesn't make it the beginning of a number, if that wasn't so in the text
  not_after : (b : ℕ) (rest : List ℕ) → begins_number (b ∷ rest) ≡ false → begins_number (b ∷ escaped place rest) ≡ false
  not_after b rest h = decide (begins_number (b ∷ escaped place rest)) refl
    where
      decide : (t : Bool) → begins_number (b ∷ escaped place rest) ≡ t → t ≡ false
      decide false e = refl
      decide true e =
          let parts = number_parts b (escaped place rest) e in
          let u = first_of rest 117 (123 ∷ parts.0) parts.2 (λ i. omega (arith, i)) (λ i. omega (arith, i)) in
          let brace = first_of u.0 123 parts.0 u.2 (λ i. omega (arith, i)) (λ i. omega (arith, i)) in
          let is : rest ≡ 117 ∷ 123 ∷ brace.0 = u.1 ∙ ap (λ (l : List ℕ). 117 ∷ l) brace.1 in
          sym (ap₂ (λ (c : ℕ) (l : List ℕ). begins_number (c ∷ l)) parts.1 is) ∙ h

  number_spelled : (b : ℕ) (rest : List ℕ) (p : Bool) → begins_number (b ∷ rest) ≡ p → (take (front place (b ∷ rest)).1 rest ≡ []
      → begins_number (b ∷ escaped_after (front place (b ∷ rest)).1 place rest) ≡ false) ⊎ ((front place (b ∷ rest)).0 ≡ codes "\\u{5c}")
  number_spelled b rest true h = inr (rw h refl)
  number_spelled b rest false h =
      inl (λ z. ap (λ (l : List ℕ). begins_number (b ∷ l)) (none_skipped (front place (b ∷ rest)).1 rest z) ∙ not_after b rest h)

  back : (k : ℕ) (text : List ℕ) → unescaped place (escaped_after k place text) ≡ drop k text
  unfolding escaped_after unescaped_after
  back zero [] = refl
  back (suc k) [] = refl
  back (suc k) (b ∷ rest) = back k rest
  back zero (b ∷ rest) =
      let f = front place (b ∷ rest) in
      let o : List ℕ = b ∷ take f.1 rest in
      fine_back f.0 o (escaped_after f.1 place rest) b (take f.1 rest) refl (front_fine place b rest).is_fine (number_spelled b rest (begins_number (b ∷ rest)) refl)
      ∙ ap (λ (l : List ℕ). o ++ l) (back f.1 rest) ∙ ap (λ (l : List ℕ). b ∷ l) (take-append-drop f.1 rest)

-- ---- no markup, and no control character

fine_harmless : (place : Place) (s o : List ℕ) → fine place s o ≡ true → is_harmless place s ≡ true
unfolding fine
fine_harmless place [] o h = absurd cc
fine_harmless place (m ∷ []) o h = rw (not_true (is_forbidden place m) (and_both (bytes_eq (m ∷ []) o) _ h).1) refl
fine_harmless place (m ∷ x ∷ []) o h = absurd cc
fine_harmless place (m ∷ x ∷ y ∷ t) o h =
    let first = and_both (begins_mark place m (x ∷ y ∷ t)) _ h in
    let ends = and_both (ends_once (x ∷ y ∷ t)) _ first.1 in
    (and_both (bytes_eq (decoded (m ∷ []) (x ∷ y ∷ t)) o) (is_harmless place (m ∷ x ∷ y ∷ t)) ends.1).1

front_harmless : (place : Place) (b : ℕ) (rest : List ℕ) → is_harmless place (front place (b ∷ rest)).0 ≡ true
front_harmless place b rest = fine_harmless place (front place (b ∷ rest)).0 _ (front_fine place b rest).is_fine

in_parts : (place : Place) (k : ℕ) (text : List ℕ) → IsHarmless place (escaped_after k place text)
unfolding escaped_after
in_parts place k [] = ([], refl, tt)
in_parts place (suc k) (b ∷ rest) = in_parts place k rest
in_parts place zero (b ∷ rest) =
    let f = front place (b ∷ rest) in
    let more = in_parts place f.1 rest in
    (f.0 ∷ more.0, ap (λ (l : List ℕ). f.0 ++ l) more.1, (front_harmless place b rest, more.2))

or_right : (p q : Bool) → (p || q) ≡ false → q ≡ false
or_right true q h = absurd cc
or_right false q h = h

false_true : false ≡ true → ⊥
false_true h = cc

-- for places that have no entities
module _ (place : Place) (none : entities place ≡ []) (lines : (b : ℕ) → is_control b ≡ true → is_forbidden place b ≡ true) where
  nothing_forbidden : (part : List ℕ) → is_harmless place part ≡ true → list_any (is_forbidden place) part ≡ false
  nothing_forbidden part h = decide (list_any (is_forbidden place) part) (ap (λ (l : List (List ℕ)). not (list_any (is_forbidden place) part) || list_any (bytes_eq part) l) (sym none) ∙ h)
    where
      decide : (p : Bool) → (not p || false) ≡ true → p ≡ false
      decide true e = absurd cc
      decide false e = refl

  no_controls : (part : List ℕ) → list_any (is_forbidden place) part ≡ false → list_any is_control part ≡ false
  no_controls [] h = refl
  no_controls (b ∷ part) h = decide (is_control b) refl (no_controls part (or_right (is_forbidden place b) (list_any (is_forbidden place) part) h))
    where
      decide : (p : Bool) → is_control b ≡ p → list_any is_control part ≡ false → (p || list_any is_control part) ≡ false
      decide true e k = absurd (false_true (sym h ∙ ap (λ (q : Bool). q || list_any (is_forbidden place) part) (lines b e)))
      decide false e k = k

  none_left : (k : ℕ) (text : List ℕ) → list_any is_control (escaped_after k place text) ≡ false
  unfolding escaped_after
  none_left k [] = refl
  none_left (suc k) (b ∷ rest) = none_left k rest
  none_left zero (b ∷ rest) =
      let f = front place (b ∷ rest) in
      list_any-append is_control f.0 (escaped_after f.1 place rest)
      ∙ ap₂ (λ (p q : Bool). p || q) (no_controls f.0 (nothing_forbidden f.0 (front_harmless place b rest))) (none_left f.1 rest)

line_controls : (b : ℕ) → is_control b ≡ true → is_forbidden Line b ≡ true
line_controls b h = grind (arith, nat_tests)

terminal_controls : (b : ℕ) → is_control b ≡ true → is_forbidden Terminal b ≡ true
terminal_controls b h = grind (arith, nat_tests)

pub lines_have_no_control : HasNoControl Line
lines_have_no_control text = none_left Line refl line_controls 0 text

pub escape_laws : EscapeLaws
escape_laws = record {
  unescapes = λ place text. back place 0 text;
  no_markup = λ place text. in_parts place 0 text;
  no_control_in_line = lines_have_no_control;
  no_control_on_terminal = λ text. none_left Terminal refl terminal_controls 0 text;
}
