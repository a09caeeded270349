-- Rows that were sorted by their times are the slowest first.
use Rattle.std.proofs.Common.{◌≡◌, ℕ, ◌≤◌, ◌<◌, ◌==◌, cond, Bool, true, false, List, [], ◌∷◌, length, map, filter, refl, sym, ap, ◌∙◌, arith}
use Rattle.std.specs.Cmp.{IsStrictWeakOrder}
use Rattle.std.specs.List.{AllPairs}
use Rattle.std.specs.List.Sorted.{IsPermutation, IsSortedBy, IsStableBy, ties}
use Rattle.std.specs.Ordering.{is_lt, nat_cmp}
use Rattle.std.proofs.lemmas.List.{get_or-map, length-map}
use Rattle.std.proofs.lemmas.List.Sorted.{IsPermutation-map, length_permutation, sorted_far}
use Rattle.mimic_reports.specs.declared.slowest.TimedRow.{TimedRow}
use Rattle.mimic_reports.specs.Slowest.{IsSlowestFirst, timed_read}

-- the test of the order: one row took longer than the other
abbrev pub is_slower : TimedRow → TimedRow → Bool
is_slower x y = is_lt (nat_cmp y.nanos x.nanos)

not_less : (a b : ℕ) → is_lt (nat_cmp a b) ≡ false → b ≤ a
not_less a b h = grind arith

less : (a b : ℕ) → is_lt (nat_cmp a b) ≡ true → a < b
less a b h = grind arith

not_less-from : (a b : ℕ) → b ≤ a → is_lt (nat_cmp a b) ≡ false
not_less-from a b h = grind arith

slower-order : IsStrictWeakOrder is_slower
slower-order = record {
  one_way = λ x y h. not_less-from x.nanos y.nanos (let l = less y.nanos x.nanos h in omega arith);
  chain = λ x y z a b. not_less-from z.nanos x.nanos
      (let l = not_less y.nanos x.nanos a in let m = not_less z.nanos y.nanos b in omega arith);
}

-- rows tie exactly if their times are equal
ties-same : (x y : TimedRow) → ties is_slower x y ≡ (x.nanos == y.nanos)
ties-same x y = grind arith

kept : (x y : TimedRow) (l : List TimedRow) (b : Bool)
    → cond b (timed_read y ∷ map timed_read l) (map timed_read l) ≡ map timed_read (cond b (y ∷ l) l)
kept x y l true = refl
kept x y l false = refl

-- those of one time
of_time : (x : TimedRow) (l : List TimedRow)
    → filter (λ row. x.nanos == row.nanos) (map timed_read l) ≡ map timed_read (filter (ties is_slower x) l)
of_time x [] = refl
of_time x (y ∷ l) = rw (ties-same x y, of_time x l) (kept x y (filter (ties is_slower x) l) (x.nanos == y.nanos))

module _ (xs ys : List TimedRow) (same : IsPermutation xs ys) (up : IsSortedBy is_slower ys) (keeps : IsStableBy is_slower xs ys) where
  falls : (d : TimedRow) → AllPairs (λ row later. later.nanos ≤ row.nanos) (map timed_read ys)
  falls d i j other before b =
      let within : j < length ys = omega (arith, b, length-map ys timed_read) in
      rw (get_or-map timed_read ys j d other within, get_or-map timed_read ys i d other (omega arith))
      (not_less _ _ (sorted_far is_slower slower-order ys up i j d (omega arith) within))

  stays : (d : TimedRow) (nanos : ℕ)
      → filter (λ row. nanos == row.nanos) (map timed_read ys) ≡ filter (λ row. nanos == row.nanos) (map timed_read xs)
  stays d nanos =
      let x : TimedRow = record d { nanos = nanos } in
      of_time x ys ∙ ap (map timed_read) (keeps x) ∙ sym (of_time x xs)

  with_row : (d : TimedRow) → IsSlowestFirst (map timed_read xs) (map timed_read ys)
  with_row d = record {
    same = IsPermutation-map timed_read xs ys same;
    falling = falls d;
    stable = stays d;
  }

none : (xs : List TimedRow) → IsPermutation [] xs → xs ≡ []
none [] h = refl
none (x ∷ xs) h = absurd (omega (arith, length_permutation [] (x ∷ xs) h))

no_rows : IsSlowestFirst [] []
no_rows = record {
  same = record { moves = []; below = tt; is = refl };
  falling = λ i j other a b. absurd (omega (arith, b));
  stable = λ nanos. refl;
}

pub slowest_first : (xs ys : List TimedRow) → IsPermutation xs ys → IsSortedBy is_slower ys → IsStableBy is_slower xs ys
    → IsSlowestFirst (map timed_read xs) (map timed_read ys)
slowest_first [] ys same up keeps = rw (none ys same) no_rows
slowest_first (x ∷ xs) ys same up keeps = with_row (x ∷ xs) ys same up keeps x
