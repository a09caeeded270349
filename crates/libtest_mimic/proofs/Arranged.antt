-- What workers answered, put together in any order of the places, is an arrangement of the trials.
use Rattle.std.proofs.Common.{◌≡◌, ◌∙◌, ℕ, suc, zero, ◌+◌, ◌<◌, Bool, false, not, List, [], ◌∷◌, ◌++◌, length, map, refl, sym, ap, subst, arith}
use Rattle.std.specs.Prelude.{◌↔◌, All, IsSomeAnd, IsTrue, slice_get, slice_index_or}
use Rattle.std.specs.List.{range_with_len}
use Rattle.std.specs.List.Sorted.{IsPermutation}
use Rattle.std.proofs.lemmas.List.{get_or_default, length-map}
use Rattle.std.proofs.lemmas.List.Elements.{All-cons, All-head, All-nil, All-tail}
use Rattle.std.proofs.lemmas.List.FromFn.{get_or-range_with_len, length-range_with_len}
use Rattle.std.proofs.lemmas.List.Sorted.{All-permutation, IsPermutation-sym}
use Rattle.libtest_mimic.specs.Prelude.{AreFlags, AreOutcomes, Arguments, Assigned, assigned_from, Gathered, Gives, info_of, IsArrangement, IsIgnored, IsOutcomeOf, IsOwn, IsOwnAt, IsRowOf, label_of, labels_of, Outcome, Placed, placed_at, placed_if, places_of, runner_of, Trial}
use Rattle.mimic_trial.specs.declared.outcome.Outcome.TheVariants.{Passed}
use Rattle.libtest_mimic.proofs.OnlyOutcomes.{outcome_at}
use Rattle.libtest_mimic.proofs.ArrivedRows.{slice_get-at}

-- ---- places

range_below : (n : ℕ) → All (λ p. p < n) (range_with_len 0 n)
range_below n = λ k d low.
    let below : k < n = omega (arith, length-range_with_len 0 n, low) in
    let e : slice_index_or (range_with_len 0 n) k d ≡ k = get_or-range_with_len 0 n k d below ∙ omega arith in
    subst (λ (q : ℕ). q < n) (sym e) below

-- the places of an order are below their number
pub order_below : (n : ℕ) (order : List ℕ) → IsPermutation order (range_with_len 0 n) → All (λ p. p < n) order
order_below n order whole = All-permutation (λ p. p < n) (range_with_len 0 n) order (IsPermutation-sym _ _ whole) (range_below n)

placed-next : (outs : List Outcome) (p : ℕ) (order : List ℕ) → p < length outs → placed_at (p ∷ order) outs ≡ (p, outcome_at outs p) ∷ placed_at order outs
placed-next outs p order low =
    let o : Outcome = outcome_at outs p in
    ap (λ x. placed_if p x ++ placed_at order outs) (slice_get-at outs p o low (sym (get_or_default outs p o Passed low)))

places_of-placed_at : (outs : List Outcome) (order : List ℕ) → All (λ p. p < length outs) order → places_of (placed_at order outs) ≡ order
places_of-placed_at outs [] low = refl
places_of-placed_at outs (p ∷ order) low =
    ap places_of (placed-next outs p order (All-head (λ p. p < length outs) p order low))
    ∙ ap (λ l. p ∷ l) (places_of-placed_at outs order (All-tail (λ p. p < length outs) p order low))

-- ---- trials that were taken apart

module _ {R : Type 0} where
  pub labels_apart : (ts : List (Trial R)) → map label_of (map info_of ts) ≡ labels_of ts
  labels_apart [] = refl
  labels_apart (t ∷ ts) = ap (λ l. label_of (info_of t) ∷ l) (labels_apart ts)

  pub length_assigned : (place : ℕ) (rs : List R) (bs : List Bool) → length rs ≡ length bs → length (assigned_from place rs bs) ≡ length rs
  length_assigned place [] bs e = refl
  length_assigned place (r ∷ rs) [] e = absurd (omega arith)
  length_assigned place (r ∷ rs) (b ∷ bs) e = ap suc (length_assigned (place + 1) rs bs (omega arith))

  module _ (args : Arguments) where
    pub flags_length : (ts : List (Trial R)) (bs : List Bool) → AreFlags args ts bs → length ts ≡ length bs
    flags_length [] [] f = refl
    flags_length [] (b ∷ bs) f = absurd f
    flags_length (t ∷ ts) [] f = absurd f
    flags_length (t ∷ ts) (b ∷ bs) f = ap suc (flags_length ts bs f.1)

    pub flags_push : (ts : List (Trial R)) (bs : List Bool) (t : Trial R) (b : Bool) → AreFlags args ts bs → (IsTrue b ↔ IsIgnored args t) → AreFlags args (ts ++ t ∷ []) (bs ++ b ∷ [])
    flags_push [] [] t b f says = (says, tt)
    flags_push [] (x ∷ bs) t b f says = absurd f
    flags_push (u ∷ ts) [] t b f says = absurd f
    flags_push (u ∷ ts) (x ∷ bs) t b f says = (f.0, flags_push ts bs t b f.1 says)

module _ {R : Type 0} (gives : Gives R) (args : Arguments) where
  -- the outcome at a place is own if it is one of what was dealt there
  own_item : (k : ℕ) (ts : List (Trial R)) (bs : List Bool) (p : ℕ) (d : Assigned R) (o : Outcome) → AreFlags args ts bs → p < length ts
      → IsOutcomeOf gives (slice_index_or (assigned_from k (map runner_of ts) bs) p d).ignored (slice_index_or (assigned_from k (map runner_of ts) bs) p d).runner (not args.bench) o
      → IsSomeAnd (slice_get ts p) (λ t. IsOwn gives args t o)
  own_item k [] bs p d o f low own = absurd (omega arith)
  own_item k (t ∷ ts) [] p d o f low own = absurd f
  own_item k (t ∷ ts) (b ∷ bs) zero d o f low own = (b, f.0, own)
  own_item k (t ∷ ts) (b ∷ bs) (suc p) d o f low own = own_item (k + 1) ts bs p d o f.1 (omega arith) own

  own_place : (ts : List (Trial R)) (bs : List Bool) (outs : List Outcome) (p : ℕ) → AreFlags args ts bs → p < length ts
      → AreOutcomes gives (not args.bench) (assigned_from 0 (map runner_of ts) bs) outs → IsOwnAt gives args ts (p, outcome_at outs p)
  own_place [] bs outs p f low own = absurd (omega arith)
  own_place (t ∷ ts) bs outs p f low own =
      let d : Assigned R = record { place = 0; runner = runner_of t; ignored = false } in
      let runners : length (map runner_of (t ∷ ts)) ≡ length (t ∷ ts) = length-map (t ∷ ts) runner_of in
      let all = length_assigned 0 (map runner_of (t ∷ ts)) bs (runners ∙ flags_length args (t ∷ ts) bs f) in
      own_item 0 (t ∷ ts) bs p d (outcome_at outs p) f low (own.1 p (omega (arith, all, runners, low)) d Passed)

  own_placed : (ts : List (Trial R)) (bs : List Bool) (outs : List Outcome) (order : List ℕ) → AreFlags args ts bs → length outs ≡ length ts
      → AreOutcomes gives (not args.bench) (assigned_from 0 (map runner_of ts) bs) outs → All (λ p. p < length ts) order → All (IsOwnAt gives args ts) (placed_at order outs)
  own_placed ts bs outs [] f len own low = All-nil (IsOwnAt gives args ts)
  own_placed ts bs outs (p ∷ order) f len own low =
      let below : p < length ts = All-head (λ p. p < length ts) p order low in
      let P : List Placed → Type 0 = λ l. All (IsOwnAt gives args ts) l in
      let rest = own_placed ts bs outs order f len own (All-tail (λ p. p < length ts) p order low) in
      subst P (sym (placed-next outs p order (omega (arith, len, below)))) (All-cons (IsOwnAt gives args ts) (p, outcome_at outs p) (placed_at order outs) (own_place ts bs outs p f below own) rest)

  -- as many outcomes as trials
  pub length_gathered : (ts : List (Trial R)) (bs : List Bool) (outs : List Outcome) (order : List ℕ) → AreFlags args ts bs
      → Gathered gives (not args.bench) (assigned_from 0 (map runner_of ts) bs) order outs → length outs ≡ length ts
  length_gathered ts bs outs order f gathered =
      gathered.answered.0 ∙ length_assigned 0 (map runner_of ts) bs (length-map ts runner_of ∙ flags_length args ts bs f) ∙ length-map ts runner_of

  pub whole_gathered : (ts : List (Trial R)) (bs : List Bool) (outs : List Outcome) (order : List ℕ) → AreFlags args ts bs
      → Gathered gives (not args.bench) (assigned_from 0 (map runner_of ts) bs) order outs → IsPermutation order (range_with_len 0 (length outs))
  whole_gathered ts bs outs order f gathered =
      subst (λ (n : ℕ). IsPermutation order (range_with_len 0 n)) (sym gathered.answered.0) gathered.whole

  -- an arrangement, in whatever order
  pub arranged : (ts : List (Trial R)) (bs : List Bool) (outs : List Outcome) (order : List ℕ) → AreFlags args ts bs
      → Gathered gives (not args.bench) (assigned_from 0 (map runner_of ts) bs) order outs → IsArrangement gives args ts (placed_at order outs)
  arranged ts bs outs order f gathered =
      let len = length_gathered ts bs outs order f gathered in
      let whole = whole_gathered ts bs outs order f gathered in
      let low = order_below (length outs) order whole in
      let P : List ℕ → ℕ → Type 0 = λ l n. IsPermutation l (range_with_len 0 n) in
      record {
        places = subst (λ (n : ℕ). P (places_of (placed_at order outs)) n) len (subst (λ (l : List ℕ). P l (length outs)) (sym (places_of-placed_at outs order low)) whole);
        own = own_placed ts bs outs order f len gathered.answered (subst (λ (n : ℕ). All (λ p. p < n) order) len low);
      }

  -- rows of what was put are rows of the trials
  pub rows_own : (ts : List (Trial R)) (bs : List Bool) (placed : List Placed) → AreFlags args ts bs → length (assigned_from 0 (map runner_of ts) bs) ≡ length ts
      → All (IsRowOf gives (not args.bench) (assigned_from 0 (map runner_of ts) bs)) placed → All (IsOwnAt gives args ts) placed
  rows_own ts bs [] f len all = All-nil (IsOwnAt gives args ts)
  rows_own [] bs (row ∷ placed) f len all = absurd (let first = All-head (IsRowOf gives (not args.bench) (assigned_from 0 [] bs)) row placed all in let low = first.0 in omega (arith, len, low))
  rows_own (t ∷ ts) bs (row ∷ placed) f len all =
      let Own = IsRowOf gives (not args.bench) (assigned_from 0 (map runner_of (t ∷ ts)) bs) in
      let first = All-head Own row placed all in
      let d : Assigned R = record { place = 0; runner = runner_of t; ignored = false } in
      All-cons (IsOwnAt gives args (t ∷ ts)) row placed (own_item 0 (t ∷ ts) bs row.0 d row.1 f (let low = first.0 in omega (arith, len, low)) (first.1 d)) (rows_own (t ∷ ts) bs placed f len (All-tail Own row placed all))
