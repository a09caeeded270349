-- Shares that workers start with, run and return.
use Rattle.std.specs.Prelude.{◌≡◌, ◌%◌, ◌<◌, ◌≤◌, ◌==◌, ◌∷◌, [], ℕ, All, Bool, List, filter, length, map, slice_index_or}
use Rattle.std.specs.List.{range_with_len}
use Rattle.mimic_trial.specs.Places.{Placed, places_of}
use Rattle.mimic_trial.specs.Promise.{Gives}
use Rattle.mimic_pool.specs.Answers.{Answers}
use Rattle.mimic_pool.specs.Share.{AreShares, items_of, share_of}
use Rattle.mimic_pool.specs.declared.share.Assigned.{Assigned}
use Rattle.mimic_pool.specs.declared.share.Share.{Share}
use Rattle.mimic_pool.specs.declared.share_workers.ShareWorkers.{ShareWorkers}
use Rattle.mimic_pool.specs.declared.share_workers.AnswersShare.{AnswersShare}
use Rattle.mimic_pool.specs.declared.share_workers.ReadyShareWorker.{ReadyShareWorker}
use Rattle.std.specs.declared.thread.PromisedHandle.{PromisedHandle}

module _ {X : Type 0} where
  -- the shares of workers, one of each
  abbrev pub shares_of : List (ReadyShareWorker X) → List (Share X)
  shares_of workers = map (λ worker. worker.share) workers

  -- the job of a started worker: the mode, and the items of its share
  abbrev pub job_of : {T : Type 0} → PromisedHandle T (AnswersShare X) → Bool × List (Assigned X)
  job_of handle = (handle.promise.test_mode, items_of handle.promise.share.value)

  -- the jobs of these shares in this mode
  abbrev pub jobs_of : Bool → List (Share X) → List (Bool × List (Assigned X))
  jobs_of mode shares = map (λ share. (mode, items_of share)) shares

  -- the trials were dealt into these shares, at least one, and each of them may be run
  pub record AreDealt (can_run : X → Type 0) (shares : List (Share X)) (trials : List (Assigned X)) : Type 0 where
    pub some : 1 ≤ length shares
    pub dealt : AreShares trials (length shares) shares
    pub runnable : All (λ item. can_run item.runner) trials

  -- a worker was started on each share in this mode
  pub record RunsShares (workers : ShareWorkers X) (mode : Bool) (trials : List (Assigned X)) : Type 0 where
    pub shares : List (Share X)
    pub some : 1 ≤ length shares
    pub dealt : AreShares trials (length shares) shares
    pub started : map job_of workers.handles.items ≡ jobs_of mode shares

-- for each job in turn there are rows that answer it
abbrev pub AreAnswered : {X : Type 0} → Gives X → List (Bool × List (Assigned X)) → List (List Placed) → Type 0
AreAnswered gives [] [] = Unit {0}
AreAnswered gives [] (rows ∷ joined) = ⊥
AreAnswered gives (job ∷ jobs) [] = ⊥
AreAnswered gives (job ∷ jobs) (rows ∷ joined) = Answers gives job.0 job.1 rows × AreAnswered gives jobs joined

module _ {X : Type 0} (gives : Gives X) (mode : Bool) (trials : List (Assigned X)) where
  -- these rows are of the worker's share: each of its places once, rising, with an own outcome
  pub record AreOfShare (workers worker : ℕ) (rows : List Placed) : Type 0 where
    pub places : places_of rows ≡ filter (λ place. place % workers == worker) (range_with_len 0 (length trials))
    pub answers : Answers gives mode (share_of workers worker trials) rows

  -- the rows of each worker are of its share
  pub record AreOfShares (joined : List (List Placed)) : Type 0 where
    pub some : 1 ≤ length joined
    pub each : (worker : ℕ) (rows : List Placed) → worker < length joined → AreOfShare (length joined) worker (slice_index_or joined worker rows)
