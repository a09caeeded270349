-- A text that was read, with a rest that is in memory, is no report of 2^64 rows or more.
use Rattle.std.proofs.Common.{◌≡◌, ℕ, zero, suc, ◌+◌, ◌<◌, ◌≤◌, ◌^◌, ◌/◌, ◌%◌, List, [], ◌∷◌, ◌++◌, false, eqb, length, decimal, refl, sym, ap, ◌∙◌, append_assoc, append-nil, inl, inr, arith, Some}
use Rattle.std.specs.Fmt.{digits, digit_glyph, digits_onto}
use Rattle.std.specs.List.{concat, flat_map}
use Rattle.std.specs.Str.Parse.{AllDigits, digits_value}
use Rattle.std.proofs.Math.Nat.{one-le-pow}
use Rattle.std.proofs.lemmas.Bool.{cases_lt, ne_eqb}
use Rattle.std.proofs.lemmas.Fmt.{decimal_is_IsNumeral, decimal_is_IsNumeral_wide, length-decimal-le}
use Rattle.std.proofs.lemmas.Bool.Decides.{nat_tests}
use Rattle.std.proofs.lemmas.List.{append_cancel_left, length-append}
use Rattle.std.proofs.lemmas.Str.{digit_value_digit}
use Rattle.std.specs.Char.{digit_value}
use Rattle.std.proofs.lemmas.List.Folds.{concat-append}
use Rattle.mimic_trial.specs.Count.{counts_of}
use Rattle.mimic_printer.specs.Json.{Contents, Entry, IsJsonReport, conclusion_of, entry_lines, json_announcement, json_end, json_outcome, json_report, json_summary, json_title, title_front, outcomes_in}
use Rattle.mimic_printer.proofs.JsonLines.{announcement_line}
use Rattle.mimic_events.specs.Progress.{Fits, Next, State, announced_from, state_text, text_so_far, title_next, outcome_next, nothing_next}
use Rattle.mimic_events.proofs.Digits.{decimal_digits, one_end}
use Rattle.mimic_events.proofs.WholeLines.{line_some}

-- ---- before the title

-- each row has a byte at least
rows_long : (es : List Entry) → length es ≤ length (concat (flat_map entry_lines es))
rows_long [] = omega arith
rows_long (e ∷ es) =
    let a : List ℕ = json_announcement e.label in
    let o : List ℕ = json_outcome e.label e.outcome e.nanos in
    let some : 0 < length a = line_some a (announcement_line e.label) in
    let rest : List ℕ = concat (flat_map entry_lines es) in
    omega (arith, some, rows_long es, length-append a (o ++ rest), length-append o rest)

pub report_long : (c : Contents) → length c.entries ≤ length (json_report c)
unfolding json_report
report_long c =
    let rows : List (List ℕ) = flat_map entry_lines c.entries in
    let last : List (List ℕ) = json_summary (conclusion_of c) c.nanos ∷ [] in
    let title : List ℕ = json_title (length c.entries) in
    omega (arith, rows_long c.entries, length-append title (concat (rows ++ last)), ap length (concat-append rows last), length-append (concat rows) (concat last))

-- ---- after the title

glyph : (d : ℕ) → d < 10 → digit_value (digit_glyph false d) < 10
glyph d lt =
    let is : digit_glyph false d ≡ 48 + d = grind (arith, nat_tests, lt) in
    omega (arith, is, digit_value_digit (digit_glyph false d) (omega (arith, is), omega (arith, is, lt)))

-- a number with more than `k` digits fills all `k` places
all_places : (k n : ℕ) (behind : List ℕ) → 10 ^ k ≤ n → AllDigits 10 behind → AllDigits 10 (digits_onto k 10 false n behind) × (length (digits_onto k 10 false n behind) ≡ k + length behind)
all_places zero n behind le h = (h, omega arith)
all_places (suc k) n behind le h =
    let some : 1 ≤ 10 ^ k = one-le-pow k 10 (omega arith) in
    let more : eqb (n / 10) 0 ≡ false = ne_eqb (n / 10) 0 (λ e. omega (arith, e, some, le)) in
    let deep = all_places k (n / 10) (digit_glyph false (n % 10) ∷ behind) (omega (arith, le)) (glyph (n % 10) (omega arith), h) in
    rw more (deep.0, deep.1 ∙ omega arith)

long_decimal : (n : ℕ) → 10 ^ 64 ≤ n → AllDigits 10 (decimal n) × (length (decimal n) ≡ 64)
unfolding digits
long_decimal n le = all_places 64 n [] le tt

-- two numbers of which one is below 2^64 are spelled by the same digits only if both are
number_small : (m n : ℕ) (x y : List ℕ) → m < 2 ^ 64 → decimal m ++ 32 ∷ x ≡ decimal n ++ 32 ∷ y → n < 2 ^ 64
number_small m n x y small e = elim (cases_lt n (10 ^ 64)) [
  | inl lt ↦
      let wide = decimal_is_IsNumeral_wide n lt in
      let same = one_end (decimal m) (decimal n) (32 ∷ x) (32 ∷ y) (decimal_digits m small) wide.0.1 (λ a b. omega arith) (λ a b. omega arith) e in
      let value : m ≡ n = sym (decimal_is_IsNumeral m small).1 ∙ ap (digits_value 10) same.0 ∙ wide.1 in
      omega (arith, small, value)
  | inr le ↦
      let long = long_decimal n le in
      let same = one_end (decimal m) (decimal n) (32 ∷ x) (32 ∷ y) (decimal_digits m small) long.0 (λ a b. omega arith) (λ a b. omega arith) e in
      absurd (omega (arith, ap length same.0, long.1, length-decimal-le 20 m (omega arith) (omega (arith, small)) small))
]

-- so are titles
title_small : (m n : ℕ) (x y : List ℕ) → m < 2 ^ 64 → json_title m ++ x ≡ json_title n ++ y → n < 2 ^ 64
unfolding json_title
title_small m n x y small e =
    let parts : (k : ℕ) (z : List ℕ) → json_title k ++ z ≡ title_front ++ (decimal k ++ (json_end ++ z)) = λ k z. simp (append_assoc, append-nil) in
    number_small m n _ _ small (append_cancel_left title_front (decimal m ++ (json_end ++ x)) (decimal n ++ (json_end ++ y)) (sym (parts m x) ∙ e ∙ parts n y))

report_begins : (c : Contents) → (rest : List ℕ) × (json_report c ≡ json_title (length c.entries) ++ rest)
unfolding json_report
report_begins c = (_, refl)

-- what follows the title and the rows
abbrev pub behind_rows : Next → State → List ℕ
behind_rows (outcome_next label) s = json_announcement label
behind_rows (nothing_next filtered_out nanos) s = json_summary (counts_of (outcomes_in s.entries) filtered_out) nanos
behind_rows other s = []

-- the text, if its title was read
pub with_title : (next : Next) (s : State) (rest : List ℕ) (n : ℕ) → announced_from next s.announced ≡ Some n
    → text_so_far next s ++ rest ≡ json_title s.announced ++ (concat (flat_map entry_lines s.entries) ++ (behind_rows next s ++ rest))
with_title title_next s rest n h = absurd cc
with_title next s rest n h = simp append_assoc

few_from : (next : Next) (s : State) (rest : List ℕ) (c : Contents) → s.announced < 2 ^ 64 → length rest < 2 ^ 64 → text_so_far next s ++ rest ≡ json_report c → length c.entries < 2 ^ 64
few_from title_next s rest c small short e = omega (arith, report_long c, ap length e, short)
few_from next s rest c small short e =
    let b = report_begins c in
    title_small s.announced (length c.entries) _ b.0 small (sym (with_title next s rest s.announced refl) ∙ e ∙ b.1)

pub few_rows : (s : State) (rest : List ℕ) (c : Contents) → Fits s → length rest < 2 ^ 64 → IsJsonReport (state_text s ++ rest) c → length c.entries < 2 ^ 64
few_rows s rest c fits short h = few_from s.next s rest c fits.announced short h.text
