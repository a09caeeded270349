-- The words that proofs of this crate cite, passed on from one place. It declares nothing.
pub use Rattle.mimic_trial.specs.Places.{Placed, placed_at, placed_if, places_of}
pub use Rattle.mimic_trial.specs.Promise.{Gives, IsOutcomeOf}
pub use Rattle.mimic_trial.specs.Same.{outcome_decides, same_outcome}
pub use Rattle.mimic_trial.specs.declared.outcome.Outcome.{Outcome}
pub use Rattle.mimic_pool.specs.Answers.{Answers, HasWorked}
pub use Rattle.mimic_pool.specs.Arrivals.{AgreesAt, arrival_of, Arrived, arrived_at, first_after, first_arrivals, has_come, missing_of, order_of, outcomes_by_place, rows_after}
pub use Rattle.mimic_pool.specs.Balance.{account, account_of, all_parts, AreIdleEmpty, Balances, IsBalanced, IsItem, puts_of, takes_of, Took, trials_in}
pub use Rattle.mimic_pool.specs.Board.{accepts, after_all, after_close, after_report, after_take, Agrees, Call, empty_board, given_by_all, HandsOnFirstReports, HasHistory, Posted, reports_of}
pub use Rattle.mimic_pool.specs.Board.Call.{close_one, report, take_one}
pub use Rattle.mimic_pool.specs.Joined.{AnswersPart, AnswersSome, AreJoined, AreOutcomes, HavePlaces, IsOutcomeAt, put_all, put_each}
pub use Rattle.mimic_pool.specs.Missing.{free_from}
pub use Rattle.mimic_pool.specs.Numbers.{arrived_of, Begins, IsDesk, outcome_at, rows_of_order}
pub use Rattle.mimic_pool.specs.OutcomeKinds.{kept_after, kept_of, kind_of, kinds_left, outcome_by, rows_of, weight_of, weight_of_all}
pub use Rattle.mimic_pool.specs.Posted.{IsBoard, posted}
pub use Rattle.mimic_pool.specs.Queue.{goes_on_twice, GoesOn, HasAnswers, HasTaken, IsFilling, IsFresh, IsJob, MayTake}
pub use Rattle.mimic_pool.specs.Returned.{HasAll, HaveArrived, StandsFor}
pub use Rattle.mimic_pool.specs.Rows.{Returned, rows_in}
pub use Rattle.mimic_pool.specs.Share.{AllRunners, AreShares, assigned_from, IsDealt, items_of, share_of}
pub use Rattle.mimic_pool.specs.Shares.{AreAnswered, AreDealt, AreOfShare, AreOfShares, job_of, jobs_of, shares_of}
pub use Rattle.mimic_pool.specs.declared.outcome_kind.OutcomeKind.{OutcomeKind}
pub use Rattle.mimic_pool.specs.declared.queue.Queue.{Queue}
pub use Rattle.mimic_pool.specs.declared.queue_source.AnswersTaken.{AnswersTaken}
pub use Rattle.mimic_pool.specs.declared.queue_source.EndedWorker.{EndedWorker}
pub use Rattle.mimic_pool.specs.declared.queue_source.QueueSource.{QueueSource}
pub use Rattle.mimic_pool.specs.declared.queue_source.ReadyQueueWorker.{ReadyQueueWorker}
pub use Rattle.mimic_pool.specs.declared.share.Assigned.{Assigned}
pub use Rattle.mimic_pool.specs.declared.share.Share.{Share}
pub use Rattle.mimic_pool.specs.declared.shared_queue.Account.{Account}
