-- What is read back of a run in JSON says what that run did.
use Rattle.std.proofs.Common.{◌≡◌, ℕ, ◌-◌, ◌<◌, ◌^◌, List, [], length, false, Option, Some, None, IsSome, option_map, refl, sym, subst, arith}
use Rattle.std.specs.Io.KnownBytes.{Appends}
use Rattle.mimic_args.specs.declared.Arguments.{Arguments}
use Rattle.mimic_trial.specs.declared.formats.FormatSetting.TheVariants.{Json}
use Rattle.mimic_trial.specs.declared.outcome.Conclusion.{Conclusion}
use Rattle.libtest_mimic.specs.Stopwatch.{Watched}
use Rattle.mimic_trial.specs.declared.trial.Trial.{Trial}
use Rattle.mimic_trial.specs.Promise.{Gives}
use Rattle.libtest_mimic.specs.Arguments.{format_of}
use Rattle.libtest_mimic.specs.Row.{PrintedRow}
use Rattle.libtest_mimic.specs.Json.{Contents, IsJsonReport}
use Rattle.libtest_mimic.specs.Report.{report_text}
use Rattle.libtest_mimic.specs.Run.{Reported}
use Rattle.libtest_mimic.specs.Sink.{Shown}
use Rattle.libtest_mimic.specs.Suite.{OfAsked, asking, suite_of}
use Rattle.libtest_mimic.proofs.JsonRuns.{run_json}
use Rattle.mimic_printer.proofs.JsonReports.{contents_of as contents_of_rows}
use Rattle.mimic_events.specs.declared.report.Report.{Report}
use Rattle.mimic_events.specs.Contents.{Spells, contents_read}
use Rattle.mimic_events.specs.Reading.{Decodes}
use Rattle.mimic_roundtrip.specs.Run.{ReportsRun}

-- ---- a run

appended : (bytes text : List ℕ) (a b : Option (List ℕ)) → a ≡ Some [] → b ≡ Some bytes → Appends a b text → bytes ≡ text
appended bytes text a b e f p = rw (e, f) at p

module _ {R : Type 0} (gives : Gives R) where
  -- the bytes are the report of what a run did
  pub record IsRead (args : Arguments) (trials : List (Trial R)) (watch : Watched) (c : Conclusion) (bytes : List ℕ) : Type 0 where
    pub report : Contents
    pub spelled : IsJsonReport bytes report
    pub reports_trials : ReportsRun gives args trials watch c report

  -- the reading of these bytes
  pub some_is_read : (args : Arguments) (trials : List (Trial R)) (watch : Watched) (c : Conclusion) (bytes : List ℕ) (o : Option Report) → IsRead args trials watch c bytes → Decodes Spells bytes (option_map contents_read o) → IsSome o
  some_is_read args trials watch c bytes None reported read = absurd (read reported.report reported.spelled)
  some_is_read args trials watch c bytes (Some r) reported read = refl

  pub same_is_read : (args : Arguments) (trials : List (Trial R)) (watch : Watched) (c : Conclusion) (bytes : List ℕ) (o : Option Report) (r : Report) → o ≡ Some r → IsRead args trials watch c bytes → Decodes Spells bytes (option_map contents_read o)
      → ReportsRun gives args trials watch c (contents_read r)
  same_is_read args trials watch c bytes o r e reported read =
      let only = rw e at read in
      subst (ReportsRun gives args trials watch c) (only.1 reported.report reported.spelled) reported.reports_trials

module _ {R : Type 0} (gives : Gives R) where
  -- a run in JSON into an empty writer leaves such bytes
  pub run_is_read : (args : Arguments) (trials : List (Trial R)) (old new : Shown) (watch : Watched) (c : Conclusion) (bytes : List ℕ) → format_of args ≡ Json → length trials < 2 ^ 64
      → old.bytes ≡ Some [] → new.bytes ≡ Some bytes → OfAsked (asking gives 1 false trials args) (λ suite. Reported gives 1 suite old new watch c) → IsRead gives args trials watch c bytes
  run_is_read args trials old new watch c bytes format few empty full (selected, selection, report) =
      let suite = suite_of args false selected (length trials - length selected) in
      let rows : List PrintedRow = report.rows in
      let x = suite.filtered_out in
      let spelled = run_json gives args selected suite.printer report.placed rows x report.nanos format report.arranged.own report.timed (omega arith) report.fits in
      let same : bytes ≡ report_text suite.printer rows x report.nanos = appended bytes _ old.bytes new.bytes empty full report.appended.appended in
      record {
        report = contents_of_rows rows x report.nanos;
        spelled = subst (λ (t : List ℕ). IsJsonReport t (contents_of_rows rows x report.nanos)) (sym same) spelled;
        reports_trials = record {
          selected = selected;
          selection = selection;
          placed = report.placed;
          in_order = report.ordered refl;
          arranged = report.arranged;
          rows = report.timed;
          filtered_out = refl;
          elapsed = report.elapsed;
          counts = report.counts;
        };
      }

  -- what a run reports by arguments that ask for JSON and for no list, it reports by these arguments otherwise too
  pub as_given : (args asked : Arguments) (trials : List (Trial R)) (watch : Watched) (c : Conclusion) (report : Contents) → asked ≡ record args { list = false; quiet = false; format = Some Json }
      → ReportsRun gives asked trials watch c report → ReportsRun gives args trials watch c report
  as_given args asked trials watch c report is reports =
      let run = subst (λ a. ReportsRun gives a trials watch c report) is reports in
      record {
        selected = run.selected;
        selection = run.selection;
        placed = run.placed;
        in_order = run.in_order;
        arranged = record { places = run.arranged.places; own = run.arranged.own };
        rows = run.rows;
        filtered_out = run.filtered_out;
        elapsed = run.elapsed;
        counts = run.counts;
      }
