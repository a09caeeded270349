-- Ids of rows.
use Rattle.std.proofs.Common.{false, true, Bool, cond, nat_lt, ap₂, append_assoc, append-nil, ◌≡◌, ℕ, suc, ◌+◌, ◌-◌, ◌/◌, ◌%◌, ◌<◌, List, [], ◌∷◌, ◌++◌, length, get_or, take, drop, drop-cons, take-append-drop, length-drop, refl, sym, ap, ◌∙◌, arith}
use Rattle.std.proofs.lemmas.List.{take_all}
use Rattle.std.proofs.lemmas.List.Concat.{flat_map-append}
use Rattle.std.specs.Char.{digit_char}
use Rattle.std.specs.List.{AllByRecursion}
use Rattle.std.proofs.lemmas.Bool.Decides.{nat_tests}
use Rattle.mimic_printer.specs.Row.{Label}
use Rattle.mimic_reports.specs.RowIds.{AreBytes, IdLaws, StayAll, id_byte, id_part, id_text, is_in_ids, stays}

-- a text whose bytes stay is spelled as it is
pub part_as_is : (text : List ℕ) → StayAll text → id_part text ≡ text
unfolding id_part
part_as_is [] h = refl
part_as_is (b ∷ text) h = rw (h.0, part_as_is text h.1) refl

-- the text up to an escape, the escape, and what follows it
pub id_split : (rest : List ℕ) (at : ℕ) → at < length rest → stays (get_or rest at 0) ≡ false → StayAll (take at rest)
    → id_part rest ≡ take at rest ++ ((126 ∷ digit_char (get_or rest at 0 / 16) ∷ digit_char (get_or rest at 0 % 16) ∷ [])
    ++ id_part (take (length rest - (at + 1)) (drop (at + 1) rest)))
unfolding id_part
id_split rest at h other plain =
    let b = get_or rest at 0 in
    let next : suc at ≡ at + 1 = omega arith in
    let behind : take (length rest - (at + 1)) (drop (at + 1) rest) ≡ drop (suc at) rest =
    take_all (length rest - (at + 1)) (drop (at + 1) rest) (omega (arith, length-drop (at + 1) rest)) ∙ ap (λ n. drop n rest) (sym next) in
    ap id_part (sym (take-append-drop at rest) ∙ ap (λ l. take at rest ++ l) (drop-cons rest at 0 h))
    ∙ flat_map-append id_byte (take at rest) (b ∷ drop (suc at) rest)
    ∙ ap (λ l. l ++ id_part (b ∷ drop (suc at) rest)) (part_as_is _ plain)
    ∙ ap (λ l. take at rest ++ l) (rw other refl)
    ∙ ap (λ l. take at rest ++ ((126 ∷ digit_char (b / 16) ∷ digit_char (b % 16) ∷ []) ++ id_part l)) (sym behind)

-- ---- no two have the same

-- the number of a digit
digit_of : ℕ → ℕ
digit_of c = cond (nat_lt c 58) (c - 48) (c - 87)

digit_back : (n : ℕ) → digit_of (digit_char n) ≡ n
unfolding digit_of
digit_back n = grind (arith, nat_tests)

same_digit : (m n : ℕ) → digit_char m ≡ digit_char n → m ≡ n
same_digit m n h = sym (digit_back m) ∙ ap digit_of h ∙ digit_back n

-- a byte that stays, and another one
as_is : (b : ℕ) (rest : List ℕ) → stays b ≡ true → id_byte b ++ rest ≡ b ∷ rest
as_is b rest h = rw h refl

by_number : (b : ℕ) (rest : List ℕ) → stays b ≡ false → id_byte b ++ rest ≡ 126 ∷ digit_char (b / 16) ∷ digit_char (b % 16) ∷ rest
by_number b rest h = rw h refl

first_same : (p q : Bool) (x y : ℕ) (s t : List ℕ) → stays x ≡ p → stays y ≡ q → id_byte x ++ s ≡ id_byte y ++ t → (x ≡ y) × (s ≡ t)
first_same true true x y s t h k e =
    let f : x ∷ s ≡ y ∷ t = sym (as_is x s h) ∙ e ∙ as_is y t k in
    (cc, cc)
first_same true false x y s t h k e =
    let f : x ∷ s ≡ 126 ∷ digit_char (y / 16) ∷ digit_char (y % 16) ∷ t = sym (as_is x s h) ∙ e ∙ by_number y t k in
    let i : x ≡ 126 = cc in
    let wrong : false ≡ true = ap stays (sym i) ∙ h in
    absurd cc
first_same false true x y s t h k e =
    let f : 126 ∷ digit_char (x / 16) ∷ digit_char (x % 16) ∷ s ≡ y ∷ t = sym (by_number x s h) ∙ e ∙ as_is y t k in
    let i : y ≡ 126 = cc in
    let wrong : false ≡ true = ap stays (sym i) ∙ k in
    absurd cc
first_same false false x y s t h k e =
    let f : 126 ∷ digit_char (x / 16) ∷ digit_char (x % 16) ∷ s ≡ 126 ∷ digit_char (y / 16) ∷ digit_char (y % 16) ∷ t
    = sym (by_number x s h) ∙ e ∙ by_number y t k in
    let great : x / 16 ≡ y / 16 = same_digit _ _ cc in
    let small : x % 16 ≡ y % 16 = same_digit _ _ cc in
    (omega (arith, great, small), cc)

-- no spelling of a byte begins with a slash
no_slash : (p : Bool) (b : ℕ) (s t : List ℕ) → stays b ≡ p → 47 ∷ s ≡ id_byte b ++ t → ⊥
no_slash true b s t h e =
    let f : 47 ∷ s ≡ b ∷ t = e ∙ as_is b t h in
    let i : b ≡ 47 = cc in
    let wrong : false ≡ true = ap stays (sym i) ∙ h in
    absurd cc
no_slash false b s t h e =
    let f : 47 ∷ s ≡ 126 ∷ digit_char (b / 16) ∷ digit_char (b % 16) ∷ t = e ∙ by_number b t h in
    let slash : ℕ = 47 in
    let i : slash ≡ 126 = cc in
    absurd (omega (arith, i))

-- what is before a slash
before_slash : (xs ys s t : List ℕ) → id_part xs ++ 47 ∷ s ≡ id_part ys ++ 47 ∷ t → (xs ≡ ys) × (s ≡ t)
unfolding id_part
before_slash [] [] s t e = (refl, cc)
before_slash [] (y ∷ ys) s t e =
    absurd (no_slash (stays y) y s (id_part ys ++ 47 ∷ t) refl (e ∙ append_assoc (id_byte y) (id_part ys) (47 ∷ t)))
before_slash (x ∷ xs) [] s t e =
    absurd (no_slash (stays x) x t (id_part xs ++ 47 ∷ s) refl (sym e ∙ append_assoc (id_byte x) (id_part xs) (47 ∷ s)))
before_slash (x ∷ xs) (y ∷ ys) s t e =
    let one = first_same (stays x) (stays y) x y (id_part xs ++ 47 ∷ s) (id_part ys ++ 47 ∷ t) refl refl
    (sym (append_assoc (id_byte x) (id_part xs) (47 ∷ s)) ∙ e ∙ append_assoc (id_byte y) (id_part ys) (47 ∷ t)) in
    let rest = before_slash xs ys s t one.1 in
    let head : x ≡ y = one.0 in
    let tail : xs ≡ ys = rest.0 in
    (cc, rest.1)

differ : (a b : Label) → id_text a ≡ id_text b → a ≡ b
differ a b e =
    let first = before_slash a.kind b.kind (id_part a.name ++ []) (id_part b.name ++ []) e in
    let second = before_slash a.name b.name [] []
    (ap (λ (l : List ℕ). l ++ 47 ∷ []) (sym (append-nil (id_part a.name)) ∙ first.1 ∙ append-nil (id_part b.name))) in
    let kind : a.kind ≡ b.kind = first.0 in
    let name : a.name ≡ b.name = second.0 in
    ap₂ (λ (k n : List ℕ). record { kind = k; name = n }) kind name

-- ---- what is in them

abbrev In : List ℕ → Type 0
In text = AllByRecursion (λ b. is_in_ids b ≡ true) text

both_in : (xs ys : List ℕ) → In xs → In ys → In (xs ++ ys)
both_in [] ys h k = k
both_in (x ∷ xs) ys h k = (h.0, both_in xs ys h.1 k)

digit_in : (d : ℕ) → d < 16 → is_in_ids (digit_char d) ≡ true
digit_in d h = grind (arith, nat_tests)

byte_in : (p : Bool) (b : ℕ) → b < 256 → stays b ≡ p → In (id_byte b)
byte_in true b h e = rw e (rw e refl, tt)
byte_in false b h e = rw e (refl, (digit_in (b / 16) (omega arith), (digit_in (b % 16) (omega arith), tt)))

part_in : (text : List ℕ) → AreBytes text → In (id_part text)
unfolding id_part
part_in [] h = tt
part_in (b ∷ text) h = both_in (id_byte b) (id_part text) (byte_in (stays b) b h.0 refl) (part_in text h.1)

harmless : (label : Label) → AreBytes label.kind → AreBytes label.name → In (id_text label)
harmless label k n = both_in _ _ (part_in label.kind k) (both_in (47 ∷ []) _ (refl, tt) (both_in _ [] (part_in label.name n) tt))

pub id_laws : IdLaws
id_laws = record { differ = differ; harmless = harmless }
