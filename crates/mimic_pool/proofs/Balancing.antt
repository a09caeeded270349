-- Each move keeps the rule of the queue of trials.
use Rattle.std.proofs.Common.{◌≡◌, ◌≢◌, ℕ, zero, suc, List, [], ◌∷◌, ◌++◌, ◌+◌, ◌-◌, ◌<◌, ◌≤◌, ◌^◌, set, sym, refl, ap, ◌∙◌, subst, ⊎_elim, append-nil, append_assoc, arith, length-append}
use Rattle.std.specs.List.{flat_map, sum_by}
use Rattle.std.specs.List.Sorted.{IsPermutation}
use Rattle.std.proofs.lemmas.List.Sorted.{IsPermutation-sym, IsPermutation-trans, IsPermutation-append_left, IsPermutation-append_right, IsPermutation-append_comm, length_permutation}
use Rattle.std.proofs.lemmas.List.Elements.{All-head, All-tail, All-append, All-cons}
use Rattle.std.proofs.lemmas.List.Concat.{flat_map-append}
use Rattle.std.proofs.lemmas.List.Sums.{sum_by-append, sum_by-cons}
use mathlib.Core.Option.{some, some-injective, some-ne-none}
use lib.ListN.{get_elem?}
use Rattle.crossbeam_queue.specs.Fifo.{Pushes, Pops, Forks, Merges, Learns}
use Rattle.crossbeam_queue.proofs.Lists.{at_set, at_snoc, set_else}
use Rattle.mimic_pool.specs.Prelude.{Account, account, AreIdleEmpty, Assigned, Balances, IsBalanced, IsItem, items_of, puts_of, Share, takes_of, Took, trials_in}

module _ {V Y : Type 0} (f : V → List Y) where
  -- one gives more than before
  flat_more : (views : List V) (port : ℕ) (v w : V) (more : List Y) → get_elem? views port ≡ some v → f w ≡ f v ++ more
      → IsPermutation (flat_map f views ++ more) (flat_map f (set views port w))
  flat_more [] port v w more at is = absurd (some-ne-none v (sym at))
  flat_more (u ∷ us) zero v w more at is =
      let same : f w ≡ f u ++ more = is ∙ ap (λ x. f x ++ more) (sym (some-injective u v at)) in
      let F = flat_map f us in
      let moved : IsPermutation (f u ++ (F ++ more)) (f u ++ (more ++ F)) = IsPermutation-append_right (f u) _ _ (IsPermutation-append_comm F more) in
      let to : f u ++ (more ++ F) ≡ f w ++ F = sym (append_assoc (f u) more F) ∙ ap (λ l. l ++ F) (sym same) in
      subst (λ l. IsPermutation l (f w ++ F)) (sym (append_assoc (f u) F more)) (subst (λ l. IsPermutation (f u ++ (F ++ more)) l) to moved)
  flat_more (u ∷ us) (suc port) v w more at is =
      subst (λ l. IsPermutation l (f u ++ flat_map f (set us port w))) (sym (append_assoc (f u) (flat_map f us) more))
      (IsPermutation-append_right (f u) _ _ (flat_more us port v w more at is))

  -- one gives nothing any more
  flat_less : (views : List V) (port : ℕ) (v w : V) → get_elem? views port ≡ some v → f w ≡ []
      → IsPermutation (flat_map f (set views port w) ++ f v) (flat_map f views)
  flat_less [] port v w at is = absurd (some-ne-none v (sym at))
  flat_less (u ∷ us) zero v w at is =
      let F = flat_map f us in
      let moved : IsPermutation (F ++ f u) (f u ++ F) = IsPermutation-append_comm F (f u) in
      let from : F ++ f u ≡ (f w ++ F) ++ f v = ap (λ l. (l ++ F) ++ f u) (sym is) ∙ ap (λ x. (f w ++ F) ++ f x) (some-injective u v at) in
      subst (λ l. IsPermutation l (f u ++ F)) from moved
  flat_less (u ∷ us) (suc port) v w at is =
      subst (λ l. IsPermutation l (f u ++ flat_map f us)) (sym (append_assoc (f u) (flat_map f (set us port w)) (f v)))
      (IsPermutation-append_right (f u) _ _ (flat_less us port v w at is))

  -- one gives the same
  flat_same : (views : List V) (port : ℕ) (v w : V) → get_elem? views port ≡ some v → f w ≡ f v → flat_map f (set views port w) ≡ flat_map f views
  flat_same [] port v w at is = absurd (some-ne-none v (sym at))
  flat_same (u ∷ us) zero v w at is = ap (λ l. l ++ flat_map f us) (is ∙ ap f (sym (some-injective u v at)))
  flat_same (u ∷ us) (suc port) v w at is = ap (λ l. f u ++ l) (flat_same us port v w at is)

  -- a new one that gives nothing
  flat_new : (views : List V) (r : V) → f r ≡ [] → flat_map f (views ++ r ∷ []) ≡ flat_map f views
  flat_new [] r is = ap (λ l. l ++ []) is
  flat_new (u ∷ us) r is = ap (λ l. f u ++ l) (flat_new us r is)

module _ {V : Type 0} where
  set_twice : (views : List V) (a : ℕ) (s w : V) → set (set views a s) a w ≡ set views a w
  set_twice [] a s w = refl
  set_twice (u ∷ us) zero s w = refl
  set_twice (u ∷ us) (suc a) s w = ap (λ l. u ∷ l) (set_twice us a s w)

  -- what is written at a place and then written over makes no difference, though another place was written between
  set_two : (views : List V) (a b : ℕ) (s w : V) → b ≢ a → set (set (set views a s) b s) a w ≡ set (set views a w) b s
  set_two [] a b s w apart = refl
  set_two (u ∷ us) zero zero s w apart = absurd (apart refl)
  set_two (u ∷ us) zero (suc b) s w apart = refl
  set_two (u ∷ us) (suc a) zero s w apart = ap (λ l. s ∷ l) (set_twice us a s w)
  set_two (u ∷ us) (suc a) (suc b) s w apart = ap (λ l. u ∷ l) (set_two us a b s w (λ e. apart (ap suc e)))

  -- a sum after a change of one
  sum_set : (f : V → ℕ) (views : List V) (port : ℕ) (v w : V) → get_elem? views port ≡ some v → sum_by f (set views port w) + f v ≡ sum_by f views + f w
  sum_set f [] port v w at = absurd (some-ne-none v (sym at))
  sum_set f (u ∷ us) zero v w at = let e : f u ≡ f v = ap f (some-injective u v at) in omega (arith, sum_by-cons f u us, sum_by-cons f w us)
  sum_set f (u ∷ us) (suc port) v w at = let e = sum_set f us port v w at in omega (arith, sum_by-cons f u us, sum_by-cons f u (set us port w))

  -- one is no more than the sum
  sum_one : (f : V → ℕ) (views : List V) (port : ℕ) (v : V) → get_elem? views port ≡ some v → f v ≤ sum_by f views
  sum_one f [] port v at = absurd (some-ne-none v (sym at))
  sum_one f (u ∷ us) zero v at = let e : f u ≡ f v = ap f (some-injective u v at) in omega (arith, sum_by-cons f u us)
  sum_one f (u ∷ us) (suc port) v at = let e = sum_one f us port v at in omega (arith, sum_by-cons f u us)

  -- if the sum is 0, and an element whose number is 0 gives nothing, then nothing is given
  flat_none : {Y : Type 0} (n : V → ℕ) (f : V → List Y) (views : List V) → ((port : ℕ) (v : V) → get_elem? views port ≡ some v → n v ≡ 0 → f v ≡ []) → sum_by n views ≡ 0 → flat_map f views ≡ []
  flat_none n f [] idle none = refl
  flat_none n f (u ∷ us) idle none =
      let split : n u + sum_by n us ≡ 0 = sym (sum_by-cons n u us) ∙ none in
      let first : f u ≡ [] = idle 0 u refl (omega arith) in
      ap (λ l. l ++ flat_map f us) first ∙ flat_none n f us (λ port. idle (suc port)) (omega arith)

  -- who has all of the sum gives all
  flat_alone : {Y : Type 0} (n : V → ℕ) (f : V → List Y) (views : List V) (port : ℕ) (v : V) → ((port : ℕ) (v : V) → get_elem? views port ≡ some v → n v ≡ 0 → f v ≡ []) → get_elem? views port ≡ some v
      → sum_by n views ≡ n v → flat_map f views ≡ f v
  flat_alone n f [] port v idle at all = absurd (some-ne-none v (sym at))
  flat_alone n f (u ∷ us) zero v idle at all =
      let split : n u + sum_by n us ≡ n v = sym (sum_by-cons n u us) ∙ all in
      let same : u ≡ v = some-injective u v at in
      let e : n u ≡ n v = ap n same in
      ap (λ l. f u ++ l) (flat_none n f us (λ port. idle (suc port)) (omega arith)) ∙ append-nil (f u) ∙ ap f same
  flat_alone n f (u ∷ us) (suc port) v idle at all =
      let split : n u + sum_by n us ≡ n v = sym (sum_by-cons n u us) ∙ all in
      let one = sum_one n us port v at in
      let first : f u ≡ [] = idle 0 u refl (omega arith) in
      ap (λ l. l ++ flat_map f us) first ∙ flat_alone n f us port v (λ port. idle (suc port)) at (omega arith)

module _ {X : Type 0} where
  idle_set : (views : List (Account X)) (port : ℕ) (w : Account X) → (w.parts ≡ 0 → (w.put ≡ []) × (w.taken ≡ [])) → AreIdleEmpty views → AreIdleEmpty (set views port w)
  idle_set views port w mine others j u e none =
      ⊎_elim (λ (x : (j ≡ port) × (w ≡ u)). let same = x.1 in let now = mine (ap (λ (y : Account X). y.parts) same ∙ none) in (ap (λ (y : Account X). y.put) (sym same) ∙ now.0, ap (λ (y : Account X). y.taken) (sym same) ∙ now.1))
      (λ (x : (j ≢ port) × (get_elem? views j ≡ some u)). others j u x.1 none) (at_set views port j w u e)

  idle_new : (views : List (Account X)) → AreIdleEmpty views → AreIdleEmpty (views ++ account 1 [] [] ∷ [])
  idle_new views others j u e none =
      ⊎_elim (λ (x : get_elem? views j ≡ some u). others j u x none) (λ (x : account 1 [] [] ≡ u). absurd (let e : 1 ≡ 0 = ap (λ (y : Account X). y.parts) x ∙ none in omega arith)) (at_snoc views (account 1 [] []) u j e)

  module _ (can_run : X → Type 0) where
    puts_alone : (shares : List (Share X)) (views : List (Account X)) (port : ℕ) (v : Account X) → IsBalanced can_run shares views → get_elem? views port ≡ some v → v.parts ≡ 2 ^ 64 → puts_of views ≡ v.put
    puts_alone shares views port v kept at all = flat_alone (λ (y : Account X). y.parts) (λ (y : Account X). y.put) views port v (λ j u e none. (kept.idle j u e none).0) at (kept.parts ∙ sym all)

    takes_alone : (shares : List (Share X)) (views : List (Account X)) (port : ℕ) (v : Account X) → IsBalanced can_run shares views → get_elem? views port ≡ some v → v.parts ≡ 2 ^ 64 → takes_of views ≡ v.taken
    takes_alone shares views port v kept at all = flat_alone (λ (y : Account X). y.parts) (λ (y : Account X). y.taken) views port v (λ j u e none. (kept.idle j u e none).1) at (kept.parts ∙ sym all)

    pub learns : (port : ℕ) (v : Account X) → Learns (IsBalanced can_run) port v (Balances v)
    learns port v shares views kept at all =
        let T = takes_alone shares views port v kept at all in
        subst (λ l. IsPermutation l (v.taken ++ trials_in shares)) (puts_alone shares views port v kept at all) (subst (λ l. IsPermutation (puts_of views) (l ++ trials_in shares)) T kept.same)

    pub puts : (n port : ℕ) (v : Account X) (x : Share X) → 0 < v.parts → IsItem can_run x → Pushes (IsBalanced can_run) n port v x (λ w. w ≡ account v.parts (v.put ++ items_of x) v.taken)
    puts n port v x some_part item shares views room kept at =
        let w = account v.parts (v.put ++ items_of x) v.taken in
        let P = puts_of views in
        let T = takes_of views in
        let L = trials_in shares in
        let more = flat_more (λ (y : Account X). y.put) views port v w (items_of x) at refl in
        let longer : IsPermutation (P ++ items_of x) ((T ++ L) ++ items_of x) = IsPermutation-append_left (items_of x) _ _ kept.same in
        let here : IsPermutation (puts_of (set views port w)) ((T ++ L) ++ items_of x) = IsPermutation-trans _ _ _ (IsPermutation-sym _ _ more) longer in
        let last : L ++ items_of x ≡ trials_in (shares ++ x ∷ []) = ap (λ l. L ++ l) (sym (append-nil (items_of x))) ∙ sym (flat_map-append items_of shares (x ∷ [])) in
        let same : (T ++ L) ++ items_of x ≡ takes_of (set views port w) ++ trials_in (shares ++ x ∷ []) =
        append_assoc T L (items_of x) ∙ ap (λ l. l ++ (L ++ items_of x)) (sym (flat_same (λ (y : Account X). y.taken) views port v w at refl)) ∙ ap (λ l. takes_of (set views port w) ++ l) last in
        let sum = sum_set (λ (y : Account X). y.parts) views port v w at in
        let parts = kept.parts in (
          w,
          record {
            parts = omega arith;
            same = subst (λ l. IsPermutation (puts_of (set views port w)) l) same here;
            idle = idle_set views port w (λ none. absurd (omega arith)) kept.idle;
            items = All-append (IsItem can_run) shares (x ∷ []) kept.items (All-cons (IsItem can_run) x [] item (λ k d below. absurd (omega arith)));
          },
          refl,
        )

    pub takes : (port : ℕ) (v : Account X) → 0 < v.parts → Pops (IsBalanced can_run) port v (Took can_run v)
    takes port v some_part x shares views kept at =
        let w = account v.parts v.put (v.taken ++ items_of x) in
        let T = takes_of views in
        let L = trials_in shares in
        let more = flat_more (λ (y : Account X). y.taken) views port v w (items_of x) at refl in
        let moved : IsPermutation ((T ++ items_of x) ++ L) (takes_of (set views port w) ++ L) = IsPermutation-append_left L _ _ more in
        let moved' : IsPermutation (T ++ (items_of x ++ L)) (takes_of (set views port w) ++ L) = subst (λ l. IsPermutation l (takes_of (set views port w) ++ L)) (append_assoc T (items_of x) L) moved in
        let here : IsPermutation (puts_of views) (takes_of (set views port w) ++ L) = IsPermutation-trans _ _ _ kept.same moved' in
        let sum = sum_set (λ (y : Account X). y.parts) views port v w at in
        let parts = kept.parts in (
          w,
          record {
            parts = omega arith;
            same = subst (λ l. IsPermutation l (takes_of (set views port w) ++ L)) (sym (flat_same (λ (y : Account X). y.put) views port v w at refl)) here;
            idle = idle_set views port w (λ none. absurd (omega arith)) kept.idle;
            items = All-tail (IsItem can_run) x shares kept.items;
          },
          record {
            is = refl;
            item = All-head (IsItem can_run) x shares kept.items;
            below = λ all.
                let whole = learns port v (x ∷ shares) views kept at all in
                let len = length_permutation _ _ whole in
                omega (arith, len, length-append v.taken (items_of x ++ L), length-append v.taken (items_of x), length-append (items_of x) L);
          },
        )

    pub forks : (port : ℕ) (v : Account X) → 1 < v.parts → Forks (IsBalanced can_run) port v (account (v.parts - 1) v.put v.taken) (account 1 [] [])
    forks port v some_parts shares views kept at =
        let w = account (v.parts - 1) v.put v.taken in
        let vs = set views port w in
        let sum = sum_set (λ (y : Account X). y.parts) views port v w at in
        let parts = kept.parts in
        let P : puts_of (vs ++ account 1 [] [] ∷ []) ≡ puts_of views = flat_new (λ (y : Account X). y.put) vs (account 1 [] []) refl ∙ flat_same (λ (y : Account X). y.put) views port v w at refl in
        let T : takes_of (vs ++ account 1 [] [] ∷ []) ≡ takes_of views = flat_new (λ (y : Account X). y.taken) vs (account 1 [] []) refl ∙ flat_same (λ (y : Account X). y.taken) views port v w at refl in
        record {
          parts = let more = sum_by-append (λ (y : Account X). y.parts) vs (account 1 [] [] ∷ []) in omega (arith, more);
          same = subst (λ l. IsPermutation l (takes_of (vs ++ account 1 [] [] ∷ []) ++ trials_in shares)) (sym P) (subst (λ l. IsPermutation (puts_of views) (l ++ trials_in shares)) (sym T) kept.same);
          idle = idle_new vs (idle_set views port w (λ none. absurd (omega arith)) kept.idle);
          items = kept.items;
        }

    set_at : (views : List (Account X)) (a : ℕ) (v w : Account X) → get_elem? views a ≡ some v → get_elem? (set views a w) a ≡ some w
    set_at [] a v w at = absurd (some-ne-none v (sym at))
    set_at (u ∷ us) zero v w at = refl
    set_at (u ∷ us) (suc a) v w at = set_at us a v w at

    -- what two gave, one gives
    flat_merge : (f : Account X → List (Assigned X)) (views : List (Account X)) (a b : ℕ) (v w both spent : Account X) → b ≢ a → get_elem? views a ≡ some v → get_elem? views b ≡ some w → f both ≡ f v ++ f w → f spent ≡ []
        → IsPermutation (flat_map f views) (flat_map f (set (set views a both) b spent))
    flat_merge f views a b v w both spent apart at at' is none =
        let one = set views a spent in
        let base = set one b spent in
        let first : IsPermutation (flat_map f one ++ f v) (flat_map f views) = flat_less f views a v spent at none in
        let second : IsPermutation (flat_map f base ++ f w) (flat_map f one) = flat_less f one b w spent (set_else views a b spent apart ∙ at') none in
        let from : IsPermutation ((flat_map f base ++ f w) ++ f v) (flat_map f views) = IsPermutation-trans _ _ _ (IsPermutation-append_left (f v) _ _ second) first in
        let turned : IsPermutation (flat_map f base ++ (f v ++ f w)) (flat_map f base ++ (f w ++ f v)) = IsPermutation-append_right (flat_map f base) _ _ (IsPermutation-append_comm (f v) (f w)) in
        let here : get_elem? base a ≡ some spent = set_else one b a spent (λ e. apart (sym e)) ∙ set_at views a v spent at in
        let to : IsPermutation (flat_map f base ++ (f v ++ f w)) (flat_map f (set base a both)) = flat_more f base a spent both (f v ++ f w) here (is ∙ ap (λ l. l ++ (f v ++ f w)) (sym none)) in
        let to' : IsPermutation (flat_map f base ++ (f v ++ f w)) (flat_map f (set (set views a both) b spent)) = subst (λ l. IsPermutation (flat_map f base ++ (f v ++ f w)) (flat_map f l)) (set_two views a b spent both apart) to in
        let from' : IsPermutation (flat_map f base ++ (f w ++ f v)) (flat_map f views) = subst (λ l. IsPermutation l (flat_map f views)) (append_assoc (flat_map f base) (f w) (f v)) from in
        IsPermutation-trans _ _ _ (IsPermutation-sym _ _ (IsPermutation-trans _ _ _ turned from')) to'

    pub merges : (port : ℕ) (v : Account X) (other : ℕ) (w : Account X) → 0 < v.parts → Merges (IsBalanced can_run) port v other w (account (v.parts + w.parts) (v.put ++ w.put) (v.taken ++ w.taken)) (account 0 [] [])
    merges port v other w some_part shares views kept at apart at' =
        let both = account (v.parts + w.parts) (v.put ++ w.put) (v.taken ++ w.taken) in
        let spent : Account X = account 0 [] [] in
        let was : get_elem? views other ≡ some w = sym (set_else views port other both apart) ∙ at' in
        let P = flat_merge (λ (y : Account X). y.put) views port other v w both spent apart at was refl refl in
        let T = flat_merge (λ (y : Account X). y.taken) views port other v w both spent apart at was refl refl in
        let a = sum_set (λ (y : Account X). y.parts) views port v both at in
        let b = sum_set (λ (y : Account X). y.parts) (set views port both) other w spent at' in
        let parts = kept.parts in
        record {
          parts = omega arith;
          same = IsPermutation-trans _ _ _ (IsPermutation-sym _ _ P) (IsPermutation-trans _ _ _ kept.same (IsPermutation-append_left (trials_in shares) _ _ T));
          idle = idle_set (set views port both) other spent (λ _. (refl, refl)) (idle_set views port both (λ none. absurd (omega arith)) kept.idle);
          items = kept.items;
        }
