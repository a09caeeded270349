-- What is left of a share, of a batch or of a queue, as a source.
use Rattle.std.proofs.Common.{◌≡◌, ◌∙◌, ◌∷◌, ◌++◌, ◌+◌, ◌≤◌, ℕ, [], All, Bool, List, ap, append-nil, arith, length, subst, sym, append_assoc, refl}
use Rattle.std.specs.Prelude.{IfSome, MatchOption, None, Option, Some}
use Rattle.std.proofs.lemmas.List.Elements.{All-head, All-tail}
use Rattle.std.specs.declared.alloc.Global.{Global}
use Rattle.std.specs.declared.thread.PromisedHandle.{PromisedHandle}
use Rattle.crossbeam_queue.specs.SegTies.{IsSegPassOf, SegId}
use Rattle.mimic_pool.specs.Prelude.{account_of, Answers, AnswersTaken, Assigned, EndedWorker, Gives, goes_on_twice, GoesOn, HasTaken, IsJob, MayTake, Placed, QueueSource}

module _ {X : Type 0} (can_run : X → Type 0) where
  abbrev pub MayRun : Assigned X → Type 0
  MayRun item = can_run item.runner

  pub first_may_run : (next : Option (Assigned X)) (old new : List (Assigned X)) → MatchOption next ((old ≡ []) × (new ≡ [])) (λ item. old ≡ item ∷ new) → All MayRun old
      → IfSome next (λ item. (old ≡ item ∷ new) × can_run item.runner)
  first_may_run None old new is may = tt
  first_may_run (Some item) old new is may = (is, All-head MayRun item new (subst (All MayRun) is may))

  pub rest_may_run : (next : Option (Assigned X)) (old new : List (Assigned X)) (room : ℕ) → MatchOption next ((old ≡ []) × (new ≡ [])) (λ item. old ≡ item ∷ new) → All MayRun old × (length old ≤ room)
      → IfSome next (λ _. (left : ℕ) → room ≡ left + 1 → All MayRun new × (length new ≤ left))
  rest_may_run None old new room is may = tt
  rest_may_run (Some item) old new room is may = λ left more. (All-tail MayRun item new (subst (All MayRun) is may.0), let len = ap length is in let fits = may.1 in omega arith)

module _ {X : Type 0} (gives : Gives X) (mode : Bool) (share given left : List (Assigned X)) (rows : List Placed) (is : share ≡ given ++ left) (none : left ≡ []) (answers : Answers gives mode given rows) where
  -- if nothing is left of a share, all of it was answered
  pub all_answered : Answers gives mode share rows
  all_answered = subst (λ l. Answers gives mode l rows) (sym (is ∙ ap (λ l. given ++ l) none ∙ append-nil given)) answers

  -- and if there was no row before, by all rows
  pub all_returned : (old new : List Placed) → new ≡ old ++ rows → old ≡ [] → Answers gives mode share new
  all_returned old new added empty = subst (λ l. Answers gives mode share l) (sym (added ∙ ap (λ l. l ++ rows) empty)) all_answered

module _ {X R : Type 0} where
  one_more : (source : QueueSource X R) (item : Assigned X) (rest : List (Assigned X)) → source.left ≡ item ∷ rest → GoesOn source (item ∷ []) (record source { left = rest })
  one_more source item rest next = record {
    same = refl;
    ours = λ ours. ours;
    parts = refl;
    put = refl;
    taken = λ before is. is ∙ ap (λ l. before ++ l) next ∙ sym (append_assoc before (item ∷ []) rest);
  }

  pub handed : (can_run : X → Type 0) (next : Option (Assigned X)) (first mid : QueueSource X R) (rest : List (Assigned X)) → GoesOn first [] mid
      → MatchOption next ((mid.left ≡ []) × (rest ≡ [])) (λ item. mid.left ≡ item ∷ rest) → All (MayRun can_run) mid.left
      → IfSome next (λ item. GoesOn first (item ∷ []) (record mid { left = rest }) × can_run item.runner)
  handed can_run None first mid rest was is may = tt
  handed can_run (Some item) first mid rest was is may = (
    goes_on_twice first mid (record mid { left = rest }) [] (item ∷ []) was (one_more mid item rest is),
    All-head (MayRun can_run) item rest (subst (All (MayRun can_run)) is may),
  )

  pub may_take_rest : (can_run : X → Type 0) (next : Option (Assigned X)) (mid : QueueSource X R) (rest : List (Assigned X)) (room : ℕ) → MayTake can_run mid room
      → MatchOption next ((mid.left ≡ []) × (rest ≡ [])) (λ item. mid.left ≡ item ∷ rest)
      → IfSome next (λ _. (left : ℕ) → room ≡ left + 1 → MayTake can_run (record mid { left = rest }) left)
  may_take_rest can_run None mid rest room was is = tt
  may_take_rest can_run (Some item) mid rest room was is = λ left more.
      let may = rest_may_run can_run (Some item) mid.left rest room is (was.runnable, was.fits) left more in
      record { ours = was.ours; some_part = was.some_part; runnable = may.0; fits = may.1 }

module _ {X T : Type 0} where
  -- what the worker of a job returned
  pub job_done : (gives : Gives X) (queue : SegId Global) (mode : Bool) (handle : PromisedHandle T (AnswersTaken X)) (taken : EndedWorker X) → IsJob queue mode handle
      → HasTaken gives handle.promise.test_mode handle.promise.queue.value.queue taken → HasTaken gives mode queue taken
  job_done gives queue mode handle taken job worked = record {
    ours = subst (λ q. IsSegPassOf q taken.pass) job.same worked.ours;
    parts = worked.parts;
    put = worked.put;
    answers = subst (λ mode. Answers gives mode (account_of taken.pass).taken taken.rows.items) job.mode_is worked.answers;
  }
