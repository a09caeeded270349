-- Second lines: what they are made of, and how wide they are.
use Rattle.std.proofs.Common.{◌≡◌, ℕ, suc, add-one, ◌+◌, ◌-◌, ◌<◌, ◌≤◌, ◌||◌, min, Bool, true, false, nat_lt, if◌then◌else◌, Option, Some, None, IfSome, List, [], ◌∷◌, ◌++◌, codes, drop, drop-cons, get_or, length, length-take, take, take-append-drop, refl, sym, ap, ◌∙◌, arith, append-nil}
use Rattle.std.specs.Prelude.{encode_utf8}
use Rattle.std.specs.List.{All, cons_option, list_any}
use Rattle.std.proofs.lemmas.Bool.Decides.{nat_tests}
use Rattle.std.proofs.lemmas.List.Elements.{All-cons, All-nil, All-take}
use Rattle.std.proofs.lemmas.List.Folds.{list_any-append}
use Rattle.mimic_printer.specs.Places.{is_control}
use Rattle.mimic_printer.specs.Row.{Label}
use Rattle.mimic_printer.proofs.EscapeLaws.{escape_laws}
use Rattle.mimic_watch.specs.Frames.{FitsLine, SecondLinesFit, columns_of, cut, fitting, front_text, label_chars, mark, mark_columns, marks, plain_byte, plain_text, points, second_line, time_text, waiting_front, waiting_line}

-- ---- characters of ASCII

abbrev IsPlain : ℕ → Type 0
IsPlain c = (32 ≤ c) × (c ≤ 126)

bytes_plain : (b : ℕ) → IfSome (plain_byte b) IsPlain
bytes_plain b = at (nat_lt b 128) (nat_lt b 32) (nat_lt 126 b) (nat_lt b 192) refl refl
  where
    at : (p q r s : Bool) → nat_lt b 32 ≡ q → nat_lt 126 b ≡ r
        → IfSome (if p then Some (if q || r then 63 else b) else (if s then None else Some 63)) IsPlain
    at true true r s e f = (omega arith, omega arith)
    at true false true s e f = (omega arith, omega arith)
    at true false false s e f = (grind (arith, nat_tests), grind (arith, nat_tests))
    at false q r true e f = tt
    at false q r false e f = (omega arith, omega arith)

text_plain : (text : List ℕ) → All IsPlain (plain_text text)
text_plain [] = All-nil IsPlain
text_plain (b ∷ text) = more (plain_byte b) (bytes_plain b) (text_plain text)
  where
    more : (found : Option ℕ) → IfSome found IsPlain → All IsPlain (plain_text text)
        → All IsPlain (cons_option found (plain_text text))
    more None h k = k
    more (Some c) h k = All-cons IsPlain c (plain_text text) h k

-- ---- characters that fit

one_fits : (n c : ℕ) (rest : List ℕ) (b : Bool) → nat_lt n (mark_columns c) ≡ b → columns_of rest ≤ n - mark_columns c → columns_of (if b then [] else c ∷ rest) ≤ n
one_fits n c rest true is h = omega arith
one_fits n c rest false is h = let few : mark_columns c ≤ n = grind (arith, nat_tests, is) in omega (arith, few, h)

fitting_fit : (n : ℕ) (cs : List ℕ) → columns_of (fitting n cs) ≤ n
fitting_fit n [] = omega arith
fitting_fit n (c ∷ cs) = one_fits n c (fitting (n - mark_columns c) cs) (nat_lt n (mark_columns c)) refl (fitting_fit (n - mark_columns c) cs)

columns_more : (xs ys : List ℕ) → columns_of (xs ++ ys) ≡ columns_of xs + columns_of ys
columns_more [] ys = omega arith
columns_more (x ∷ xs) ys = omega (arith, columns_more xs ys)

-- a front that fits, with this room behind it
front_fits : (ys rest : List ℕ) (n room : ℕ) → room + columns_of ys ≡ n → fitting n (ys ++ rest) ≡ ys ++ fitting room rest
front_fits [] rest n room e = ap (λ k. fitting k rest) (omega (arith, e))
front_fits (y ∷ ys) rest n room e =
    let no : nat_lt n (mark_columns y) ≡ false = grind (arith, nat_tests, e) in
    ap (λ b. if b then [] else y ∷ fitting (n - mark_columns y) (ys ++ rest)) no
    ∙ ap (λ l. y ∷ l) (front_fits ys rest (n - mark_columns y) room (omega (arith, e)))

-- the next one doesn't fit
pub next_stops : (ys rest : List ℕ) (c n room : ℕ) → room + columns_of ys ≡ n → room < mark_columns c → fitting n (ys ++ c ∷ rest) ≡ ys
next_stops ys rest c n room e h =
    let yes : nat_lt room (mark_columns c) ≡ true = grind (arith, nat_tests, h) in
    front_fits ys (c ∷ rest) n room e ∙ ap (λ b. ys ++ (if b then [] else c ∷ fitting (room - mark_columns c) rest)) yes ∙ append-nil ys

pub next_too_wide : (ys rest : List ℕ) (c n room : ℕ) → room + columns_of ys ≡ n → room < mark_columns c → nat_lt n (columns_of (ys ++ c ∷ rest)) ≡ true
next_too_wide ys rest c n room e h =
    let long : n < columns_of (ys ++ c ∷ rest) = omega (arith, e, h, columns_more ys (c ∷ rest)) in grind (arith, nat_tests, long)

-- all fit
pub all_fitting : (ys : List ℕ) (n room : ℕ) → room + columns_of ys ≡ n → fitting n ys ≡ ys
all_fitting ys n room e = ap (fitting n) (sym (append-nil ys)) ∙ front_fits ys [] n room e ∙ append-nil ys

pub all_short : (ys : List ℕ) (n room : ℕ) → room + columns_of ys ≡ n → nat_lt n (columns_of ys) ≡ false
all_short ys n room e = grind (arith, nat_tests, e)

pub whole_fitting : (cs : List ℕ) (n : ℕ) → nat_lt n (columns_of cs) ≡ false → fitting n cs ≡ cs
whole_fitting cs n is = let few : columns_of cs ≤ n = grind (arith, nat_tests, is) in all_fitting cs n (n - columns_of cs) (omega (arith, few))

-- where the next one is
pub parts_at : (all ys : List ℕ) (c : ℕ) → ys ≡ take (length ys) all → length ys < length all → c ≡ get_or all (length ys) c
    → all ≡ ys ++ (c ∷ drop (length ys + 1) all)
parts_at all ys c front h here =
    sym (take-append-drop (length ys) all) ∙ ap (λ l. l ++ drop (length ys) all) (sym front)
    ∙ ap (λ l. ys ++ l) (drop-cons all (length ys) c h ∙ ap (λ x. x ∷ drop (suc (length ys)) all) (sym here)
    ∙ ap (λ n. c ∷ drop n all) (sym (add-one (length ys))))

-- one more fits
pub one_more : (ys : List ℕ) (c n room wide : ℕ) → room + columns_of ys ≡ n → wide ≡ mark_columns c → wide ≤ room → (room - wide) + columns_of (ys ++ c ∷ []) ≡ n
one_more ys c n room wide e is h = omega (arith, e, is, h, columns_more ys (c ∷ []))

-- ---- lines

marks_clean : (cs : List ℕ) → list_any is_control (marks cs) ≡ false
marks_clean [] = refl
marks_clean (c ∷ cs) =
    list_any-append is_control (mark c) (marks cs) ∙ ap (λ b. b || list_any is_control (marks cs)) (escape_laws.no_control_on_terminal (encode_utf8 c)) ∙ marks_clean cs

abbrev IsPoint : ℕ → Type 0
IsPoint b = b ≡ 46

-- marks, and points behind them
record IsCut (columns : ℕ) (text : List ℕ) : Type 0 where
  kept : List ℕ
  behind : List ℕ
  parts : text ≡ marks kept ++ behind
  short : columns_of kept + length behind ≤ columns
  are_points : All IsPoint behind

cut_at : (columns : ℕ) (cs : List ℕ) (b : Bool) → nat_lt columns (columns_of cs) ≡ b
    → IsCut columns (if b then marks (fitting (columns - 2) cs) ++ points columns else marks cs)
cut_at columns cs true is = record {
  kept = fitting (columns - 2) cs;
  behind = points columns;
  parts = refl;
  short = omega (arith, fitting_fit (columns - 2) cs, length-take (min columns 2) (codes ".."));
  are_points = All-take IsPoint (min columns 2) (codes "..") (All-cons IsPoint 46 (codes ".") refl
      (All-cons IsPoint 46 [] refl (All-nil IsPoint)));
}
cut_at columns cs false is = record {
  kept = cs;
  behind = [];
  parts = sym (append-nil (marks cs));
  short = grind (arith, nat_tests, is);
  are_points = All-nil IsPoint;
}

cut_fits : (columns : ℕ) (cs : List ℕ) → IsCut columns (cut columns cs)
unfolding cut
cut_fits columns cs = cut_at columns cs (nat_lt columns (columns_of cs)) refl

waiting_fits : (columns : ℕ) (running : Option Label) (quiet : ℕ) → FitsLine columns (waiting_line columns running quiet)
waiting_fits columns None quiet =
    let text : List ℕ = codes "nothing ended for " ++ time_text quiet in
    record {
      front = front_text columns text;
      characters = [];
      points = [];
      parts = sym (append-nil (front_text columns text));
      short = omega (arith, length-take columns (plain_text text));
      printable = All-take IsPlain columns (plain_text text) (text_plain text);
      no_control = refl;
      are_points = All-nil IsPoint;
    }
waiting_fits columns (Some label) quiet =
    let text : List ℕ = codes "waiting " ++ (time_text quiet ++ codes " for ") in
    let front : List ℕ = waiting_front columns quiet in
    let name : IsCut (columns - length front) (cut (columns - length front) (label_chars label)) = cut_fits (columns - length front) (label_chars label) in
    record {
      front = front;
      characters = name.kept;
      points = name.behind;
      parts = ap (λ l. front ++ l) name.parts;
      short = omega (arith, name.short, length-take columns (plain_text text));
      printable = All-take IsPlain columns (plain_text text) (text_plain text);
      no_control = marks_clean name.kept;
      are_points = name.are_points;
    }

line_fits : (columns : ℕ) (running : Option Label) (quiet : ℕ) (b : Bool) → FitsLine columns (if b then [] else waiting_line columns running quiet)
line_fits columns running quiet true = record { front = []; characters = []; points = []; parts = refl; short = omega arith; printable = All-nil IsPlain; no_control = refl; are_points = All-nil IsPoint }
line_fits columns running quiet false = waiting_fits columns running quiet

pub second_lines_fit : SecondLinesFit
unfolding second_line
second_lines_fit columns running quiet = line_fits columns running quiet (nat_lt quiet 2)
