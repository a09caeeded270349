-- Numbers that fall by at most one, and no others, are those of the items in the shards of a list.
use Rattle.std.proofs.Common.{◌≡◌, ℕ, zero, suc, ◌+◌, ◌%◌, ◌<◌, ◌≤◌, List, [], ◌∷◌, ◌++◌, map, take, length, length-append, get_or, refl, sym, ap, subst, ◌∙◌, arith}
use Rattle.std.specs.Prelude.{◌↔◌, AllPairs}
use Rattle.std.specs.List.{range_with_len, sum_by}
use Rattle.std.proofs.Math.Seq.{get_or-append_seam, take-append_seam}
use Rattle.std.proofs.lemmas.List.{get_or-map, get_or-take, length-map, length-take-le, map-append}
use Rattle.std.proofs.lemmas.List.Elements.{All-cons, All-from_get_or}
use Rattle.std.proofs.lemmas.List.FromFn.{fill_by_all, get_or-map-range_with_len, length-map-range_with_len, length-range_with_len}
use Rattle.std.proofs.lemmas.List.Kept.{AllPairs-cons}
use Rattle.std.proofs.lemmas.List.Quantifiers.{all_pairs_push}
use Rattle.std.proofs.lemmas.List.Sums.{get_or-le-sum_by, sum_by-cons, sum_by-le, sum_by_push}
use Rattle.std.proofs.lemmas.Simd.{map-map}
use Rattle.mimic_trial.specs.Shard.{shard_from, shard_of}
use Rattle.mimic_events.specs.declared.report.Report.{Report}
use Rattle.mimic_join.specs.Joined.{FallsAreShards, FallsByOne, trials_in}
use Rattle.mimic_join.proofs.Turns.{from_first, one_step, shards_from}

-- the later number is as great as the earlier one, or one less
record Falls (a b : ℕ) : Type 0 where
  no_rise : b ≤ a
  one : a ≤ b + 1

abbrev size : List ℕ → ℕ
size xs = length xs

-- how many items are in each shard
abbrev sizes : ℕ → ℕ → List ℕ → List ℕ
sizes m place xs = map size (shards_from (suc m) place xs)

length-sizes : (m place : ℕ) (xs : List ℕ) → length (sizes m place xs) ≡ suc m
length-sizes m place xs = length-map (shards_from (suc m) place xs) size ∙ length-map-range_with_len _ 0 (suc m)

none : (m place : ℕ) → sizes m place [] ≡ map (λ k. 0) (range_with_len 0 (suc m))
none m place = map-map size (λ j. shard_from (suc m) place ((place + j) % suc m) []) (range_with_len 0 (suc m))

abbrev total : List ℕ → ℕ
total ns = sum_by (λ n. n) ns

-- ---- one more item: the number at the place goes up by one, and comes before the others

abbrev raised : ℕ → List ℕ → List ℕ
raised m ns = suc (get_or ns m 0) ∷ take m ns

raised_last : (m : ℕ) (ns : List ℕ) (n : ℕ) → length ns ≡ m → raised m (ns ++ n ∷ []) ≡ suc n ∷ ns
raised_last m ns n e = rw (← e, get_or-append_seam, take-append_seam) refl

one_more : (m place : ℕ) (x : ℕ) (xs : List ℕ) → sizes m place (x ∷ xs) ≡ raised m (sizes m (place + 1) xs)
one_more m place x xs =
    let s = one_step m place x xs in
    let turned : sizes m (place + 1) xs ≡ map size s.0 ++ size s.1.0 ∷ [] =
    ap (map size) s.1.1.1 ∙ map-append size s.0 (s.1.0 ∷ []) in
    let n : length (map size s.0) ≡ m =
    omega (arith, ap length turned, length-append (map size s.0) (size s.1.0 ∷ []), length-sizes m (place + 1) xs) in
    ap (map size) s.1.1.0 ∙ sym (ap (raised m) turned ∙ raised_last m (map size s.0) (size s.1.0) n)

-- ---- numbers of shards fall

raised_falls : (m : ℕ) (ns : List ℕ) → length ns ≡ suc m → AllPairs Falls ns → AllPairs Falls (raised m ns)
raised_falls m ns n h =
    let few : length (take m ns) ≡ m = length-take-le m ns (omega (arith, n)) in
    AllPairs-cons Falls (suc (get_or ns m 0)) (take m ns)
    (All-from_get_or (Falls (suc (get_or ns m 0))) (take m ns) 0
    (λ k lt. omega (arith, get_or-take m ns k 0 (omega (arith, lt, few)), h k m 0 (omega (arith, lt, few)) (omega (arith, n)))))
    (λ i j d lt within. omega (
      arith,
      get_or-take m ns i d (omega (arith, lt, within, few)),
      get_or-take m ns j d (omega (arith, within, few)),
      h i j d lt (omega (arith, within, few, n)),
    ))

sizes_fall : (m place : ℕ) (xs : List ℕ) → AllPairs Falls (sizes m place xs)
sizes_fall m place [] = subst (AllPairs Falls) (sym (none m place)) (λ i j d lt within.
    let n = length-map-range_with_len {X = ℕ} (λ k. 0) 0 (suc m) in
    let at = get_or-map-range_with_len {X = ℕ} (λ k. 0) 0 (suc m) in
    omega (arith, at i i d (omega (arith, lt, within, n)) (omega arith), at j j d (omega (arith, within, n)) (omega arith)))
sizes_fall m place (x ∷ xs) =
    subst (AllPairs Falls) (sym (one_more m place x xs))
    (raised_falls m _ (length-sizes m (place + 1) xs) (sizes_fall m (place + 1) xs))

-- ---- numbers that fall are of shards

first_last : (k : ℕ) (ns : List ℕ) → AllPairs Falls (suc k ∷ ns) → AllPairs Falls (ns ++ k ∷ [])
first_last k ns h =
    all_pairs_push Falls ns k (λ i j d lt within. h (suc i) (suc j) d (omega (arith, lt)) (omega (arith, within)))
    (λ i d within. omega (arith, h 0 (suc i) d (omega arith) (omega (arith, within))))

are_sizes : (m place : ℕ) (xs ns : List ℕ) → length ns ≡ suc m → AllPairs Falls ns → total ns ≡ length xs → sizes m place xs ≡ ns
are_sizes m place [] ns n h s =
    none m place ∙ sym (fill_by_all (λ j. 0) ns (suc m) 0 n
    (λ k lt. omega (arith, s, get_or-le-sum_by (λ i. i) ns k 0 (omega (arith, lt, n)))))
are_sizes m place (x ∷ xs) [] n h s = absurd (omega (arith, n))
are_sizes m place (x ∷ xs) (zero ∷ ns) n h s =
    let low = sum_by-le (λ i. i) 0 (zero ∷ ns) (All-cons (λ i. i ≤ 0) zero ns (omega arith)
    (λ k d lt. (h 0 (suc k) d (omega arith) (omega (arith, lt))).no_rise)) in
    absurd (omega (arith, s, low))
are_sizes m place (x ∷ xs) (suc k ∷ ns) n h s =
    let rest = are_sizes m (place + 1) xs (ns ++ k ∷ []) (omega (arith, n, length-append ns (k ∷ []))) (first_last k ns h)
    (omega (arith, s, sum_by_push (λ i. i) ns k, sum_by-cons (λ i. i) (suc k) ns)) in
    one_more m place x xs ∙ (ap (raised m) rest ∙ raised_last m ns k (omega (arith, n)))

-- ---- the numbers of reports

of_shards : (m : ℕ) (xs : List ℕ) → map (λ index. length (shard_of (suc m) index xs)) (range_with_len 0 (suc m)) ≡ sizes m 0 xs
of_shards m xs =
    sym (map-map size (λ index. shard_of (suc m) index xs) (range_with_len 0 (suc m))) ∙ ap (map size) (from_first (suc m) xs)

trials_at : (reports : List Report) (i : ℕ) (r : Report) (d : ℕ) → i < length (map trials_in reports)
    → get_or (map trials_in reports) i d ≡ trials_in (get_or reports i r)
trials_at reports i r d within = get_or-map trials_in reports i r d (omega (arith, within, length-map reports trials_in))

of_count : (count : ℕ) (reports : List Report) → length reports ≡ count → 0 < count
    → AllPairs FallsByOne reports ↔ ((xs : List ℕ)
    × (map trials_in reports ≡ map (λ index. length (shard_of count index xs)) (range_with_len 0 count)))
of_count zero reports e some = absurd (omega (arith, some))
of_count (suc m) [] e some = absurd (omega (arith, e))
of_count (suc m) (r ∷ rs) e some =
    let reports : List Report = r ∷ rs in
    let ns : List ℕ = map trials_in reports in
    let n : length ns ≡ suc m = length-map reports trials_in ∙ e in (
      λ h. (
        range_with_len 0 (total ns),
        sym (of_shards m (range_with_len 0 (total ns)) ∙ are_sizes m 0 (range_with_len 0 (total ns)) ns n
            (λ i j d lt within. omega (
              arith,
              trials_at reports i r d (omega (arith, lt, within)),
              trials_at reports j r d within,
              h i j r lt (omega (arith, within, n, e)),
            ))
            (sym (length-range_with_len 0 (total ns)))),
      ),
      λ p. λ i j d lt within.
          let h = subst (AllPairs Falls) (sym (p.1 ∙ of_shards m p.0)) (sizes_fall m 0 p.0) in
          omega (
            arith,
            trials_at reports i d 0 (omega (arith, lt, within, n, e)),
            trials_at reports j d 0 (omega (arith, within, n, e)),
            h i j 0 lt (omega (arith, within, n, e)),
          ),
    )

pub falls_are_shards : FallsAreShards
falls_are_shards reports some = of_count (length reports) reports refl some
