-- The order of ratios.
use Rattle.std.proofs.Common.{◌≡◌, inl, inr, ℕ, zero, suc, ◌*◌, ◌<◌, ◌≤◌, true, false, refl, arith, eq-zero-or-pos, mul-pos, mul-le-mul_right, mul_right_comm, le_trans, le_of_mul-le-mul_right}
use Rattle.std.specs.Prelude.{nat_lt}
use Rattle.std.specs.Cmp.{IsStrictWeakOrder}
use Rattle.std.proofs.lemmas.Bool.Decides.{nat_tests}
use Rattle.mimic_compare.specs.Changes.{Change, is_greater, numerator}

not_less : (a b : ℕ) → nat_lt a b ≡ false → b ≤ a
not_less a b h = grind (arith, nat_tests)

less : (a b : ℕ) → nat_lt a b ≡ true → a < b
less a b h = grind (arith, nat_tests)

not_less-from : (a b : ℕ) → b ≤ a → nat_lt a b ≡ false
not_less-from a b h = grind (arith, nat_tests)

-- fractions m/a, n/b and o/c, of which the second is not that of 0 and 0
through : (m n o a b c : ℕ) → (b ≡ 0 → 0 < n) → m * b ≤ n * a → n * c ≤ o * b → m * c ≤ o * a
through m n o a zero c some h k = elim (eq-zero-or-pos c) [
  | inl none ↦ rw none (omega arith)
  | inr more ↦ absurd (omega (arith, mul-pos (some refl) more, k))
]
through m n o a (suc b) c some h k =
    let left : m * suc b * c ≤ n * a * c = mul-le-mul_right c h in
    let right : n * c * a ≤ o * suc b * a = mul-le-mul_right a k in
    let whole : m * c * suc b ≤ o * a * suc b =
    rw (mul_right_comm m c (suc b), mul_right_comm o a (suc b)) (le_trans left (rw (mul_right_comm n a c) right)) in
    le_of_mul-le-mul_right whole (omega arith)

some_numerator : (c : Change) → c.old ≡ 0 → 0 < numerator c
some_numerator c none = rw none (omega arith)

pub greater-order : IsStrictWeakOrder is_greater
greater-order = record {
  one_way = λ x y h. not_less-from (numerator x * y.old) (numerator y * x.old) (let l = less (numerator y * x.old) (numerator x * y.old) h in omega arith);
  chain = λ x y z h k.
      not_less-from (numerator z * x.old) (numerator x * z.old)
      (through (numerator x) (numerator y) (numerator z) x.old y.old z.old (some_numerator y)
      (not_less (numerator y * x.old) (numerator x * y.old) h) (not_less (numerator z * y.old) (numerator y * z.old) k));
}
