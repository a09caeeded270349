-- The words that contracts and proofs of this crate cite, passed on from one place. It declares nothing.
pub use Rattle.mimic_args.specs.Arguments.{format_of, threads_of}
pub use Rattle.mimic_args.specs.declared.Arguments.{Arguments}
pub use Rattle.mimic_pool.specs.Arrivals.{AgreesAt, arrival_of, Arrived, arrived_at, has_come, missing_of, rows_after}
pub use Rattle.mimic_pool.specs.Inbox.{is_timed}
pub use Rattle.mimic_pool.specs.Joined.{AnswersPart, AreJoined, AreOutcomes, IsOutcomeAt, put_each}
pub use Rattle.mimic_pool.specs.Rows.{rows_in}
pub use Rattle.mimic_pool.specs.Share.{assigned_from}
pub use Rattle.mimic_pool.specs.WaitingTrials.{awaited, Holds, Runs, runs_all}
pub use Rattle.mimic_pool.specs.declared.share.Assigned.{Assigned}
pub use Rattle.mimic_pool.specs.declared.waiting_trials.WaitingTrials.{WaitingTrials}
pub use Rattle.mimic_printer.specs.Json.{Contents, FitsEntry, FitsLabel, FitsTime, IsJsonReport}
pub use Rattle.mimic_printer.specs.List.{list_text, listed}
pub use Rattle.mimic_printer.specs.Report.{announcement_in, announcement_text, failed_name, failure_text, failures_in, failures_text, outcome_in, row_failed_name, row_failure, row_text, rows_text, summary_in, summary_text, terse_outcome, timed_outcome_text, title_in, title_text}
unfoldable pub use Rattle.mimic_printer.specs.Report.{failures_if_any, outcome_line, outcome_mark, report_text, result_summary}
pub use Rattle.mimic_printer.specs.Row.{Label, label_at, label_of, labels_of, outcomes_of, PrintedRow, row_of, rows_at, rows_from, timed_row}
pub use Rattle.mimic_printer.specs.Sink.{Adds, Ends, HasFaultLeft, keeps_fault, Put, Puts, Shown, shown, Stopped, Writes}
pub use Rattle.mimic_printer.specs.Widths.{kind_width_of, name_width_of}
pub use Rattle.mimic_printer.specs.declared.Printer.{Printer}
pub use Rattle.mimic_printer.specs.declared.sink.Sink.{Sink}
pub use Rattle.mimic_printer.specs.declared.sink.WriteFault.{WriteFault}
pub use Rattle.mimic_trial.specs.Count.{CanCount, counted, counts_of, is_failed, is_ignored_outcome, is_measured, is_passed, total_of}
pub use Rattle.mimic_trial.specs.Places.{InOrder, Placed, placed_at, placed_if, places_of}
pub use Rattle.mimic_trial.specs.Promise.{FitsTypes, Gives, IsOutcomeOf}
pub use Rattle.mimic_trial.specs.Text.{kind_part}
pub use Rattle.mimic_trial.specs.Trial.{AllCanRun, info_of, runner_of}
pub use Rattle.mimic_trial.specs.declared.formats.FormatSetting.{FormatSetting}
pub use Rattle.mimic_trial.specs.declared.outcome.Outcome.{Outcome}
pub use Rattle.mimic_trial.specs.declared.outcome.Conclusion.{Conclusion}
pub use Rattle.mimic_trial.specs.declared.trial.TestInfo.{TestInfo}
pub use Rattle.mimic_trial.specs.declared.trial.Trial.{Trial}
pub use Rattle.libtest_mimic.specs.Arrangement.{IsArrangement, IsOwn, IsOwnAt, OnlyOwn}
pub use Rattle.libtest_mimic.specs.Gathering.{AreRowsOf, Completes, Gathered, GatheredSome, GatheringRefused, IsCompleted, IsDifference, IsGathered, IsLeastDifference, IsOfRows, IsReadyFor, IsReturned, IsRowOf, WrittenAndReturned}
pub use Rattle.libtest_mimic.specs.Request.{asked_by, IsSelected}
pub use Rattle.libtest_mimic.specs.Run.{AppendsJson, AppendsLines, AppendsRows, Done, done, Follows, HasAnswer, HasJson, HasLines, HasRows, IsRun, Lists, next_text, OnNothingWritten, Reported, ReportRefused, Reports, start_text, StartsReport}
pub use Rattle.libtest_mimic.specs.Selection.{full_name, IsDropped, IsIgnored, IsMatch, IsMissed, IsSelection, IsSkipped, LeavesOut, MatchesOne, MatchesTrial, Occurs}
pub use Rattle.libtest_mimic.specs.Steps.{AddsRows, AddsSummary, announced_next, AreArrived, AreFlags, AreParts, AreSupplied, HasCounted, HasRoomFor, OccursBefore, PrintsAs, PutsArrived, PutsTitled, RowsRefused, RowsRun, selected_suite, StandsAt}
pub use Rattle.libtest_mimic.specs.Stopwatch.{elapsed_of, IsFresh, IsRunning, StopsAfter, Watched, watched}
pub use Rattle.libtest_mimic.specs.Suite.{AreTimed, Asked, asking, filtered_out_of, has_time, in_order, IsTime, IsTimed, OfAsked, printer_for, rows_of, Suite, suite_of}
pub use Rattle.libtest_mimic.specs.declared.request.Request.{Request}
pub use Rattle.libtest_mimic.specs.declared.running.RunError.{RunError}
pub use Rattle.libtest_mimic.specs.declared.running.tally.Tally.{Tally}
pub use Rattle.libtest_mimic.specs.declared.request.Selection.{Selection}
