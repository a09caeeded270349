-- Trials that were dealt into shares: each of them is in one share, and may be run there.
use Rattle.std.proofs.Common.{◌≡◌, ◌≢◌, ◌∙◌, inl, inr, ℕ, zero, suc, ◌+◌, ◌%◌, ◌<◌, ◌≤◌, ◌==◌, Bool, true, false, cond, List, [], ◌∷◌, ◌++◌, All, length, slice_index_or, refl, sym, ap, append-nil, append_assoc, subst, arith}
use Rattle.std.specs.List.{flat_map, range_with_len}
use Rattle.std.specs.List.Sorted.{IsPermutation}
use Rattle.std.proofs.lemmas.List.Sorted.{IsPermutation-refl, IsPermutation-trans, IsPermutation-append_left, IsPermutation-append_right, IsPermutation-append_comm}
use Rattle.std.proofs.lemmas.List.Elements.{All-cons, All-head, All-push, All-tail}
use Rattle.std.proofs.lemmas.Nat.{mod_below}
use Rattle.std.proofs.lemmas.Bool.Decides.{nat_tests, eqb_tells}
use Rattle.mimic_pool.specs.Prelude.{AllRunners, Answers, AreAnswered, AreDealt, AreOfShare, AreOfShares, AreShares, Assigned, assigned_from, Gives, items_of, jobs_of, Placed, Share, share_of}
use Rattle.mimic_pool.proofs.Placing.{answered_places, share_places}
use Rattle.mimic_pool.proofs.Working.{answers_both}

module _ {X : Type 0} (can_run : X → Type 0) where
  abbrev pub MayRun : Assigned X → Type 0
  MayRun item = can_run item.runner

  runnable_share : (workers w : ℕ) (items : List (Assigned X)) → All MayRun items → All MayRun (share_of workers w items)
  runnable_share workers w [] h = h
  runnable_share workers w (x ∷ xs) h =
      let rest = runnable_share workers w xs (All-tail MayRun x xs h) in
      elim (x.place % workers == w) as (λ t. All MayRun (cond t (x ∷ share_of workers w xs) (share_of workers w xs))) [
        | true ↦ All-cons MayRun x (share_of workers w xs) (All-head MayRun x xs h) rest
        | false ↦ rest
      ]

  -- trials that may be run may be run in each share
  pub runnable_shares : (shares : List (Share X)) (trials : List (Assigned X)) → AreDealt can_run shares trials → All (λ share. AllRunners can_run share) shares
  runnable_shares shares trials dealt = λ k d low.
      subst (All MayRun) (sym (dealt.dealt k d low)) (runnable_share (length shares) k trials dealt.runnable)

  -- a trial more was dealt
  pub deals_one : (old new : List (Share X)) (n : ℕ) (trials : List (Assigned X)) (item : Assigned X) → length old ≡ n → length new ≡ n
      → ((trials : List (Assigned X)) → AreShares trials n old → AreShares (trials ++ item ∷ []) n new) → can_run item.runner → AreDealt can_run old trials → AreDealt can_run new (trials ++ item ∷ [])
  deals_one old new n trials item before len dealt may was = record {
    some = omega (arith, before, len, was.some);
    dealt = subst (λ (n : ℕ). AreShares (trials ++ item ∷ []) n new) (sym len) (dealt trials (subst (λ (n : ℕ). AreShares trials n old) before was.dealt));
    runnable = All-push MayRun trials item was.runnable may;
  }

module _ {X : Type 0} where
  -- the shares, one after another
  parts_of : (workers k : ℕ) (trials : List (Assigned X)) (shares : List (Share X)) → ((j : ℕ) (d : Share X) → j < length shares → items_of (slice_index_or shares j d) ≡ share_of workers (k + j) trials)
      → flat_map items_of shares ≡ flat_map (λ w. share_of workers w trials) (range_with_len k (length shares))
  parts_of workers k trials [] are = refl
  parts_of workers k trials (s ∷ shares) are =
      let first : items_of s ≡ share_of workers k trials = are 0 s (omega arith) ∙ ap (λ w. share_of workers w trials) (omega arith) in
      let rest = parts_of workers (k + 1) trials shares (λ j d low. are (suc j) d (omega arith) ∙ ap (λ w. share_of workers w trials) (omega arith)) in
      ap (λ l. l ++ flat_map items_of shares) first ∙ ap (λ l. share_of workers k trials ++ l) rest

  none_in : (workers k n : ℕ) → flat_map (λ w. share_of {X = X} workers w []) (range_with_len k n) ≡ []
  none_in workers k zero = refl
  none_in workers k (suc n) = none_in workers (k + 1) n

  -- a trial is in no other share
  others_same : (workers k n : ℕ) (x : Assigned X) (xs : List (Assigned X)) → x.place % workers < k → flat_map (λ w. share_of workers w (x ∷ xs)) (range_with_len k n) ≡ flat_map (λ w. share_of workers w xs) (range_with_len k n)
  others_same workers k zero x xs below = refl
  others_same workers k (suc n) x xs below =
      let no : (x.place % workers == k) ≡ false = grind (arith, nat_tests) in
      let here : share_of workers k (x ∷ xs) ≡ share_of workers k xs = ap (λ t. cond t (x ∷ share_of workers k xs) (share_of workers k xs)) no in
      ap (λ l. l ++ flat_map (λ w. share_of workers w (x ∷ xs)) (range_with_len (k + 1) n)) here
      ∙ ap (λ l. share_of workers k xs ++ l) (others_same workers (k + 1) n x xs (omega arith))

  -- a trial is in one share
  in_one : (workers k n : ℕ) (x : Assigned X) (xs : List (Assigned X)) → k ≤ x.place % workers → x.place % workers < k + n
      → IsPermutation (x ∷ flat_map (λ w. share_of workers w xs) (range_with_len k n)) (flat_map (λ w. share_of workers w (x ∷ xs)) (range_with_len k n))
  in_one workers k zero x xs above below = absurd (omega arith)
  in_one workers k (suc n) x xs above below =
      let F = flat_map (λ w. share_of workers w xs) (range_with_len (k + 1) n) in
      let F' = flat_map (λ w. share_of workers w (x ∷ xs)) (range_with_len (k + 1) n) in
      let S = share_of workers k xs in
      let yes : x.place % workers ≡ k → (x.place % workers == k) ≡ true = λ e. grind (arith, nat_tests, e) in
      let no : x.place % workers ≢ k → (x.place % workers == k) ≡ false = λ e. grind (arith, nat_tests, e) in
      elim (eqb_tells (x.place % workers) k) [
        | inl e ↦
            let here : share_of workers k (x ∷ xs) ≡ x ∷ S = ap (λ t. cond t (x ∷ S) S) (yes e.1) in
            let rest : F' ≡ F = others_same workers (k + 1) n x xs (omega (arith, e.1)) in
            subst (λ l. IsPermutation (x ∷ (S ++ F)) l) (sym (ap (λ l. l ++ F') here ∙ ap (λ l. (x ∷ S) ++ l) rest)) (IsPermutation-refl (x ∷ (S ++ F)))
        | inr e ↦
            let here : share_of workers k (x ∷ xs) ≡ S = ap (λ t. cond t (x ∷ S) S) (no e.1) in
            let rest : IsPermutation (x ∷ F) F' = in_one workers (k + 1) n x xs (let apart = e.1 in omega arith) (omega arith) in
            let moved : IsPermutation (x ∷ (S ++ F)) (S ++ (x ∷ F)) =
            subst (λ l. IsPermutation (x ∷ (S ++ F)) l) (append_assoc S (x ∷ []) F) (IsPermutation-append_left F (x ∷ S) (S ++ x ∷ []) (IsPermutation-append_comm (x ∷ []) S)) in
            subst (λ l. IsPermutation (x ∷ (S ++ F)) (l ++ F')) (sym here) (IsPermutation-trans _ _ _ moved (IsPermutation-append_right S _ _ rest))
      ]

  in_shares : (workers : ℕ) (trials : List (Assigned X)) → 0 < workers → IsPermutation trials (flat_map (λ w. share_of workers w trials) (range_with_len 0 workers))
  in_shares workers [] some = subst (λ l. IsPermutation [] l) (sym (none_in workers 0 workers)) (IsPermutation-refl [])
  in_shares workers (x ∷ xs) some =
      let rest = in_shares workers xs some in
      let mine = mod_below x.place workers some in
      IsPermutation-trans _ _ _ (IsPermutation-append_right (x ∷ []) _ _ rest) (in_one workers 0 workers x xs (omega arith) (omega (arith, mine)))

  -- the trials are those of the shares, each once
  pub dealt_whole : (shares : List (Share X)) (trials : List (Assigned X)) → 1 ≤ length shares → AreShares trials (length shares) shares → IsPermutation trials (flat_map items_of shares)
  dealt_whole shares trials some dealt =
      subst (λ l. IsPermutation trials l) (sym (parts_of (length shares) 0 trials shares (λ j d low. dealt j d low ∙ ap (λ w. share_of (length shares) w trials) (omega arith)))) (in_shares (length shares) trials (omega (arith, some)))

module _ {X : Type 0} (gives : Gives X) where
  -- the rows that answer each share answer them all
  pub answered_flat : (mode : Bool) (shares : List (Share X)) (joined : List (List Placed)) → AreAnswered gives (jobs_of mode shares) joined → Answers gives mode (flat_map items_of shares) (flat_map (λ rows. rows) joined)
  answered_flat mode [] [] are = tt
  answered_flat mode [] (rows ∷ joined) are = absurd are
  answered_flat mode (s ∷ shares) [] are = absurd are
  answered_flat mode (s ∷ shares) (rows ∷ joined) are = answers_both gives mode (items_of s) (flat_map items_of shares) rows (flat_map (λ rows. rows) joined) are.0 (answered_flat mode shares joined are.1)

  answered_count : (mode : Bool) (shares : List (Share X)) (joined : List (List Placed)) → AreAnswered gives (jobs_of mode shares) joined → length joined ≡ length shares
  answered_count mode [] [] are = refl
  answered_count mode [] (rows ∷ joined) are = absurd are
  answered_count mode (s ∷ shares) [] are = absurd are
  answered_count mode (s ∷ shares) (rows ∷ joined) are = let rest = answered_count mode shares joined are.1 in omega (arith, rest)

  answered_at : (mode : Bool) (shares : List (Share X)) (joined : List (List Placed)) (worker : ℕ) (s : Share X) (rows : List Placed) → AreAnswered gives (jobs_of mode shares) joined → worker < length joined
      → Answers gives mode (items_of (slice_index_or shares worker s)) (slice_index_or joined worker rows)
  answered_at mode [] [] worker s d are low = absurd (omega arith)
  answered_at mode [] (rows ∷ joined) worker s d are low = absurd are
  answered_at mode (share ∷ shares) [] worker s d are low = absurd are
  answered_at mode (share ∷ shares) (rows ∷ joined) zero s d are low = are.0
  answered_at mode (share ∷ shares) (rows ∷ joined) (suc worker) s d are low = answered_at mode shares joined worker s d are.1 (omega arith)

  -- the rows that answer the share of a worker have its places
  of_share : (mode : Bool) (rs : List X) (bs : List Bool) (workers worker : ℕ) (rows : List Placed) → Answers gives mode (share_of workers worker (assigned_from 0 rs bs)) rows → AreOfShare gives mode (assigned_from 0 rs bs) workers worker rows
  of_share mode rs bs workers worker rows answers = record {
    places = answered_places gives mode (share_of workers worker (assigned_from 0 rs bs)) rows answers ∙ share_places workers worker 0 rs bs;
    answers = answers;
  }

  pub of_shares : (mode : Bool) (rs : List X) (bs : List Bool) (shares : List (Share X)) (joined : List (List Placed)) → 1 ≤ length shares → AreShares (assigned_from 0 rs bs) (length shares) shares
      → AreAnswered gives (jobs_of mode shares) joined → AreOfShares gives mode (assigned_from 0 rs bs) joined
  of_shares mode rs bs [] joined some dealt are = absurd (omega arith)
  of_shares mode rs bs (s ∷ shares) joined some dealt are =
      let trials = assigned_from 0 rs bs in
      let count = answered_count mode (s ∷ shares) joined are in
      let each : (worker : ℕ) (d : List Placed) → worker < length joined → AreOfShare gives mode trials (length (s ∷ shares)) worker (slice_index_or joined worker d) = λ worker d low.
      of_share mode rs bs (length (s ∷ shares)) worker (slice_index_or joined worker d)
      (subst (λ items. Answers gives mode items (slice_index_or joined worker d)) (dealt worker s (omega (arith, low, count))) (answered_at mode (s ∷ shares) joined worker s d are low)) in
      record {
        some = omega (arith, some, count);
        each = subst (λ (n : ℕ). (worker : ℕ) (d : List Placed) → worker < length joined → AreOfShare gives mode trials n worker (slice_index_or joined worker d)) (sym count) each;
      }

  -- what answers the jobs that are left makes answers of all jobs
  abbrev pub LeavesJobs : List (Bool × List (Assigned X)) → List (List Placed) → List (Bool × List (Assigned X)) → Type 0
  LeavesJobs jobs joined left = (more : List (List Placed)) → AreAnswered gives left more → AreAnswered gives jobs (joined ++ more)

  pub job_answered : (jobs left rest : List (Bool × List (Assigned X))) (joined next : List (List Placed)) (job : Bool × List (Assigned X)) (rows : List Placed) → left ≡ job ∷ rest → next ≡ joined ++ rows ∷ []
      → Answers gives job.0 job.1 rows → LeavesJobs jobs joined left → LeavesJobs jobs next rest
  job_answered jobs left rest joined next job rows is_left is_next answers before more answered =
      let all : AreAnswered gives left (rows ∷ more) = subst (λ l. AreAnswered gives l (rows ∷ more)) (sym is_left) (answers, answered) in
      subst (λ l. AreAnswered gives jobs l) (sym (append_assoc joined (rows ∷ []) more) ∙ ap (λ l. l ++ more) (sym is_next)) (before (rows ∷ more) all)

  pub jobs_done : (jobs left : List (Bool × List (Assigned X))) (joined : List (List Placed)) → length left ≡ 0 → LeavesJobs jobs joined left → AreAnswered gives jobs joined
  jobs_done jobs [] joined none before = subst (AreAnswered gives jobs) (append-nil joined) (before [] tt)
  jobs_done jobs (job ∷ left) joined none before = absurd (omega arith)
