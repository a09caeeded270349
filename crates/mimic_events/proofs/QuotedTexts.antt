-- Reading an escaped text, byte by byte.
use Rattle.std.proofs.Common.{◌≡◌, ◌≢◌, ℕ, ◌<◌, ◌≤◌, List, [], ◌∷◌, ◌++◌, Option, Some, None, Bor, length, drop, drop-cons, length-drop, take, get_or, arith, ◌-◌, refl, sym, ap, subst, ◌∙◌, append_assoc}
use Rattle.std.specs.List.{flat_map}
use Rattle.std.proofs.lemmas.List.{append-nil, nil_from_length, take_all}
use Rattle.std.proofs.lemmas.List.Concat.{flat_map-append}
use Rattle.mimic_trial.specs.Escape.{ArePlain, escape, escaped}
use Rattle.mimic_trial.proofs.Escapes.{escaped-plain}
use Rattle.mimic_events.specs.LineParts.{candidate_of, ReadsEscaped}
use Rattle.mimic_events.specs.LineParts.{Follows}
use Rattle.mimic_events.proofs.Escapes.{again, one_split}
use Rattle.mimic_events.proofs.Fronts.{follows_then, follows_stop}

-- the text so far, and what each text that is spelled there goes on with
pub record Reaches (bytes text rest : List ℕ) : Type 0 where
  pub front : bytes ≡ escaped text ++ rest
  pub only : (other after : List ℕ) → bytes ≡ escaped other ++ 34 ∷ after → (tail : List ℕ) × (other ≡ text ++ tail) × (rest ≡ escaped tail ++ 34 ∷ after)

pub starts : (bytes : List ℕ) → Reaches bytes [] bytes
unfolding escaped
starts bytes = record { front = refl; only = λ other after e. (other, refl, e) }

-- no byte's escaped form begins with a quote
pub no_quote : (b : ℕ) (x y : List ℕ) → 34 ∷ y ≢ escape b ++ x
unfolding candidate_of
no_quote b x y e =
    let quote : b ≡ 34 = sym (again b x) ∙ ap candidate_of (sym e) in
    let f : 34 ∷ y ≡ 92 ∷ 34 ∷ x = subst (λ (k : ℕ). 34 ∷ y ≡ escape k ++ x) quote e in
    absurd cc

more : (bytes text rest : List ℕ) (b : ℕ) (after other stop : List ℕ) → rest ≡ escape b ++ after → (tail : List ℕ) → other ≡ text ++ tail → rest ≡ escaped tail ++ 34 ∷ stop
    → (tail : List ℕ) × (other ≡ (text ++ b ∷ []) ++ tail) × (after ≡ escaped tail ++ 34 ∷ stop)
unfolding escaped
more bytes text rest b after other stop e [] o r = absurd (no_quote b after stop (sym r ∙ e))
more bytes text rest b after other stop e (c ∷ tail) o r =
    let same = one_split rest b after e c (escaped tail ++ 34 ∷ stop) (r ∙ append_assoc (escape c) (escaped tail) (34 ∷ stop)) in
    (tail, o ∙ ap (λ (k : ℕ). text ++ k ∷ tail) same.0 ∙ sym (append_assoc text (b ∷ []) tail), sym same.1)

pub goes_on : (bytes text rest : List ℕ) (b : ℕ) (after : List ℕ) → Reaches bytes text rest → rest ≡ escape b ++ after → Reaches bytes (text ++ b ∷ []) after
unfolding escaped
goes_on bytes text rest b after h e = record {
  front = h.front ∙ ap (λ (x : List ℕ). escaped text ++ x) e ∙ rw (flat_map-append escape text (b ∷ [])) (simp (append_assoc, append-nil));
  only = λ other stop f. let t = h.only other stop f in more bytes text rest b after other stop e t.0 t.1 t.2;
}

last : (bytes text rest other stop : List ℕ) → ((b : ℕ) (after : List ℕ) → rest ≡ escape b ++ after → ⊥) → (tail : List ℕ) → other ≡ text ++ tail → rest ≡ escaped tail ++ 34 ∷ stop → (other ≡ text) × (34 ∷ stop ≡ rest)
unfolding escaped
last bytes text rest other stop none [] o r = (o ∙ append-nil text, sym r)
last bytes text rest other stop none (c ∷ tail) o r = absurd (none c (escaped tail ++ 34 ∷ stop) (r ∙ append_assoc (escape c) (escaped tail) (34 ∷ stop)))

pub is_done : (bytes text rest : List ℕ) → Reaches bytes text rest → ((b : ℕ) (after : List ℕ) → rest ≡ escape b ++ after → ⊥) → ReadsEscaped bytes text rest
is_done bytes text rest h none = record {
  front = h.front;
  only = λ other stop f. let t = h.only other stop f in last bytes text rest other stop none t.0 t.1 t.2;
}

-- bytes that need no escape were read
pub goes_on_plain : (bytes text : List ℕ) (plain after : List ℕ) → Reaches bytes text (plain ++ after) → ArePlain plain → Reaches bytes (text ++ plain) after
goes_on_plain bytes text [] after h p = rw (append-nil text) h
goes_on_plain bytes text (b ∷ plain) after h p =
    let one : b ∷ (plain ++ after) ≡ escape b ++ (plain ++ after) = ap (λ (x : List ℕ). x ++ (plain ++ after)) (sym p.0) in
    subst (λ (x : List ℕ). Reaches bytes x after) (append_assoc text (b ∷ []) plain)
    (goes_on_plain bytes (text ++ b ∷ []) plain after (goes_on bytes text (b ∷ plain ++ after) b (plain ++ after) h one) p.1)

-- ---- a text that is known, in parts

escaped_parts : (text plain left : List ℕ) → text ≡ plain ++ left → ArePlain plain → escaped text ≡ plain ++ escaped left
unfolding escaped
escaped_parts text plain left e p = ap escaped e ∙ flat_map-append escape plain left ∙ ap (λ (x : List ℕ). x ++ escaped left) (escaped-plain plain p)

-- a text that needs no escape
pub plain_same : (text plain rest line : List ℕ) → line ≡ plain ++ rest → ArePlain plain → plain ≡ text → line ≡ escaped text ++ rest
plain_same text plain rest line e p same = e ∙ ap (λ (x : List ℕ). x ++ rest) (sym (escaped-plain plain p) ∙ ap escaped same)

-- after bytes that need no escape
pub plain_then : (text plain left line rest : List ℕ) (o : Option (Bor (List ℕ))) → text ≡ plain ++ left → ArePlain plain → line ≡ plain ++ rest → Follows (escaped left) rest o → Follows (escaped text) line o
plain_then text plain left line rest o e p f h =
    subst (λ (front : List ℕ). Follows front line o) (sym (escaped_parts text plain left e p)) (follows_then plain (escaped left) line rest o f h)

pub plain_stop : (text plain left line : List ℕ) → text ≡ plain ++ left → ArePlain plain → ((rest : List ℕ) → line ≢ plain ++ rest) → Follows (escaped text) line None
plain_stop text plain left line e p h =
    subst (λ (front : List ℕ). Follows front line None) (sym (escaped_parts text plain left e p)) (follows_stop plain (escaped left) line h)

-- after the escaped form of the first byte
escaped_first : (text : List ℕ) → 1 ≤ length text → escaped text ≡ escape (get_or text 0 0) ++ escaped (drop 1 text)
unfolding escaped
escaped_first text h = ap (λ (x : List ℕ). flat_map escape x) (drop-cons text 0 0 h)

pub first_then : (text line rest : List ℕ) (o : Option (Bor (List ℕ))) → 1 ≤ length text → line ≡ escape (get_or text 0 0) ++ rest → Follows (escaped (drop 1 text)) rest o → Follows (escaped text) line o
first_then text line rest o h e f =
    subst (λ (front : List ℕ). Follows front line o) (sym (escaped_first text h)) (follows_then (escape (get_or text 0 0)) (escaped (drop 1 text)) line rest o e f)

pub first_stop : (text line : List ℕ) → 1 ≤ length text → ((rest : List ℕ) → line ≢ escape (get_or text 0 0) ++ rest) → Follows (escaped text) line None
first_stop text line h f =
    subst (λ (front : List ℕ). Follows front line None) (sym (escaped_first text h)) (follows_stop (escape (get_or text 0 0)) (escaped (drop 1 text)) line f)

pub nothing_left : (text : List ℕ) (rest : Bor (List ℕ)) → length text < 1 → Follows (escaped text) rest.now (Some rest)
unfolding escaped
nothing_left text rest h = rw (nil_from_length text (omega arith)) refl

-- the bytes after the first
pub behind_first : (text : List ℕ) → take (length text - 1) (drop 1 text) ≡ drop 1 text
behind_first text = take_all (length text - 1) (drop 1 text) (omega (arith, length-drop 1 text))
