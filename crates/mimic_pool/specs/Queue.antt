-- What a queue of trials holds, and its workers before they start, while they run and when they have ended.
use Rattle.std.proofs.Common.{◌∙◌, ap, append-nil, append_assoc, refl, subst, sym}
use Rattle.std.specs.Prelude.{◌≡◌, ◌+◌, ◌++◌, ◌<◌, ◌≤◌, ℕ, All, Bool, List, [], length, true, vec_capacity, vec_len}
use Rattle.std.specs.Arc.{arc_value}
use Rattle.std.specs.List.{flat_map}
use Rattle.std.specs.declared.alloc.Global.{Global}
use Rattle.std.specs.declared.thread.PromisedHandle.{PromisedHandle}
use Rattle.crossbeam_queue.specs.SegTies.{IsSegPassOf, SegId}
use Rattle.mimic_trial.specs.Promise.{Gives}
use Rattle.mimic_pool.specs.Answers.{Answers}
use Rattle.mimic_pool.specs.Joined.{AnswersSome}
use Rattle.mimic_pool.specs.Balance.{account, account_of, all_parts}
use Rattle.mimic_pool.specs.Share.{AllRunners, items_of}
use Rattle.mimic_pool.specs.declared.queue.EndedWorkers.{EndedWorkers}
use Rattle.mimic_pool.specs.declared.queue.Queue.{Queue}
use Rattle.mimic_pool.specs.declared.queue.QueueWorkers.{QueueWorkers}
use Rattle.mimic_pool.specs.declared.queue.ReadyQueueWorkers.{ReadyQueueWorkers}
use Rattle.mimic_pool.specs.declared.share.Assigned.{Assigned}
use Rattle.mimic_pool.specs.declared.shared_queue.TheConstants.{MOST_IN_BATCH}
use Rattle.mimic_pool.specs.declared.queue_source.AnswersTaken.{AnswersTaken}
use Rattle.mimic_pool.specs.declared.queue_source.EndedWorker.{EndedWorker}
use Rattle.mimic_pool.specs.declared.queue_source.ReadyQueueWorker.{ReadyQueueWorker}
use Rattle.mimic_pool.specs.declared.queue_source.QueueSource.{QueueSource}

module _ {X : Type 0} where
  -- which queue the worker takes from
  abbrev pub queue_id : {R : Type 0} → QueueSource X R → SegId Global
  queue_id source = (arc_value source.queue).queue

  -- the worker has handed these trials out, and put none
  pub record GoesOn {R : Type 0} (first : QueueSource X R) (items : List (Assigned X)) (last : QueueSource X R) : Type 0 where
    pub same : queue_id last ≡ queue_id first
    pub ours : IsSegPassOf (queue_id first) first.pass → IsSegPassOf (queue_id first) last.pass
    pub parts : (account_of last.pass).parts ≡ (account_of first.pass).parts
    pub put : (account_of last.pass).put ≡ (account_of first.pass).put
    pub taken : (before : List (Assigned X)) → (account_of first.pass).taken ≡ before ++ first.left
        → (account_of last.pass).taken ≡ (before ++ items) ++ last.left

  -- the worker may take, and what is left of its batch may be run and has room
  pub record MayTake {R : Type 0} (can_run : X → Type 0) (source : QueueSource X R) (room : ℕ) : Type 0 where
    pub ours : IsSegPassOf (queue_id source) source.pass
    pub some_part : 0 < (account_of source.pass).parts
    pub runnable : All (λ item. can_run item.runner) source.left
    pub fits : length source.left ≤ room

  -- how many trials the worker hands out at most
  abbrev pub most_of : {R : Type 0} → QueueSource X R → ℕ
  most_of source = length source.left + source.budget

  -- the worker has put and taken nothing, and has one part of this queue
  pub record IsFresh (queue : SegId Global) (worker : ReadyQueueWorker X) : Type 0 where
    pub same : (arc_value worker.queue).queue ≡ queue
    pub ours : IsSegPassOf (arc_value worker.queue).queue worker.pass
    pub fresh : account_of worker.pass ≡ account 1 [] []
    pub empty : worker.rows.items ≡ []

  -- a worker was started on this queue in this mode
  pub record IsJob {T : Type 0} (queue : SegId Global) (mode : Bool) (handle : PromisedHandle T (AnswersTaken X)) : Type 0 where
    pub same : handle.promise.queue.value.queue ≡ queue
    pub mode_is : handle.promise.test_mode ≡ mode

  -- these trials were put, those of the batch that is being filled among them, and no worker has a part
  pub record IsFilling (can_run : X → Type 0) (queue : Queue X) (trials : List (Assigned X)) : Type 0 where
    pub ours : IsSegPassOf (arc_value queue.queue).queue queue.pass
    pub parts : (account_of queue.pass).parts ≡ all_parts
    pub none_taken : (account_of queue.pass).taken ≡ []
    pub put : (account_of queue.pass).put ++ items_of queue.next ≡ trials
    pub runnable : AllRunners can_run queue.next
    pub some : 1 ≤ queue.size
    pub few : queue.size ≤ MOST_IN_BATCH
    pub workers : 1 ≤ queue.workers

  -- these trials were put, and the batch that is being filled has room for one more
  pub record HoldsQueue (can_run : X → Type 0) (queue : Queue X) (trials : List (Assigned X)) : Type 0 where
    pub filling : IsFilling can_run queue trials
    pub room : length (items_of queue.next) < queue.size

  -- these trials were put, this many workers have all other parts, and there is room for all rows that are to come
  pub record Awaits (ended : EndedWorkers X) (out : ℕ) (trials : List (Assigned X)) : Type 0 where
    pub ours : IsSegPassOf (arc_value ended.queue).queue ended.pass
    pub some_part : 0 < (account_of ended.pass).parts
    pub parts : (account_of ended.pass).parts + out ≡ all_parts
    pub put : (account_of ended.pass).put ≡ trials
    pub fits : vec_len ended.joined + out < vec_capacity ended.joined
    pub no_rows : ended.spare.items ≡ []
    pub fits_rows : length trials ≤ ended.spare.room

  -- these trials were put, and each worker is to start with one part
  pub record AreReadyQueueWorkers (ready : ReadyQueueWorkers X) (trials : List (Assigned X)) : Type 0 where
    pub awaits : Awaits ready.ended (vec_len ready.workers) trials
    pub none_taken : (account_of ready.ended.pass).taken ≡ []
    pub none_joined : vec_len ready.ended.joined ≡ 0
    pub fresh : All (IsFresh (arc_value ready.ended.queue).queue) ready.workers.items
    pub no_handles : vec_len ready.handles ≡ 0
    pub fits : vec_len ready.workers ≤ vec_capacity ready.handles

module _ {X : Type 0} (gives : Gives X) (mode : Bool) where
  -- the worker has put nothing, and returned its part and an own outcome of each trial that it took
  pub record HasTaken (queue : SegId Global) (ended : EndedWorker X) : Type 0 where
    pub ours : IsSegPassOf queue ended.pass
    pub parts : (account_of ended.pass).parts ≡ 1
    pub put : (account_of ended.pass).put ≡ []
    pub answers : Answers gives mode (account_of ended.pass).taken ended.rows.items

  -- what the workers that have ended took is answered, and the others are awaited
  pub record HasAnswers (ended : EndedWorkers X) (out : ℕ) (trials : List (Assigned X)) : Type 0 where
    pub awaits : Awaits ended out trials
    pub answered : AnswersSome gives mode true (account_of ended.pass).taken (flat_map (λ rows. rows.items) ended.joined.items)

-- workers in this mode were started for these trials
pub record RunsQueue {X : Type 0} (gives : Gives X) (workers : QueueWorkers X) (mode : Bool) (trials : List (Assigned X)) : Type 0 where
  pub mode_is : workers.test_mode ≡ mode
  pub answered : HasAnswers gives workers.test_mode workers.ended (vec_len workers.handles) trials
  pub jobs : All (IsJob (arc_value workers.ended.queue).queue workers.test_mode) workers.handles.items

-- ---- laws of a worker's end of a queue

module _ {X R : Type 0} where
  -- nothing was handed out yet
  pub goes_nowhere : (source : QueueSource X R) → GoesOn source [] source
  goes_nowhere source = record {
    same = refl;
    ours = λ ours. ours;
    parts = refl;
    put = refl;
    taken = λ before is. is ∙ ap (λ l. l ++ source.left) (sym (append-nil before));
  }

  -- what was handed out first, and then
  pub goes_on_twice : (first mid last : QueueSource X R) (items more : List (Assigned X)) → GoesOn first items mid → GoesOn mid more last → GoesOn first (items ++ more) last
  goes_on_twice first mid last items more was is = record {
    same = is.same ∙ was.same;
    ours = λ ours. subst (λ q. IsSegPassOf q last.pass) was.same (is.ours (subst (λ q. IsSegPassOf q mid.pass) (sym was.same) (was.ours ours)));
    parts = is.parts ∙ was.parts;
    put = is.put ∙ was.put;
    taken = λ before begun. is.taken (before ++ items) (was.taken before begun) ∙ ap (λ l. l ++ last.left) (append_assoc before items more);
  }
