-- What the joined report of the runs of all shards shows.
use Rattle.std.proofs.Common.{◌≡◌, ◌+◌, ◌-◌, ◌≤◌, List, [], ◌∷◌, ◌++◌, map, length, length-append, refl, sym, ap, subst, ◌∙◌, arith, inl, inr}
use Rattle.std.specs.List.{AllZip}
use Rattle.std.specs.Prelude.{◌⊎◌, IsPermutation}
use Rattle.std.proofs.lemmas.List.Concat.{flat_map-append}
use Rattle.std.proofs.lemmas.List.Sorted.{IsPermutation-sym, IsPermutation-trans, length_permutation}
use Rattle.libtest_mimic.specs.Selection.{IsDropped, LeavesOut}
use Rattle.mimic_args.specs.declared.Arguments.{Arguments}
use Rattle.mimic_trial.specs.declared.trial.Trial.{Trial}
use Rattle.mimic_trial.specs.Promise.{Gives}
use Rattle.mimic_printer.specs.Json.{Entry}
use Rattle.mimic_events.specs.Contents.{contents_read}
use Rattle.mimic_events.specs.declared.report.Report.{Report}
use Rattle.mimic_join.specs.Joined.{IsJoined, all_of, entries_in}
use Rattle.mimic_join.specs.Joined as joining
use Rattle.mimic_join.specs.Turns.{in_turn}
use Rattle.mimic_join.proofs.Joining.{concat_orders, entries_turned, filtered_out-append}
use Rattle.mimic_join.proofs.Turns.{each-in_turn, each-length, shards_in_turn, parts-in_turn, turns_are_all}
use Rattle.mimic_roundtrip.specs.Joined.{IsEntryOf, JoinsRuns, ReportsTrials, shards_of}

-- ---- what each item gives: nothing if it is left out, else one entry

module _ {X E : Type 0} (Out : X → Type 0) (Own : X → E → Type 0) where
  abbrev pub IsReportedBy : X → List E → Type 0
  IsReportedBy x es = (Out x × (es ≡ [])) ⊎ (¬ Out x × ((e : E) × (es ≡ e ∷ []) × Own x e))

  none_own : (rows : List E) → AllZip Own [] rows → [] ≡ rows
  none_own [] h = refl
  none_own (e ∷ rows) h = absurd h

  abbrev pub AreReported : List X → List E → Type 0
  AreReported xs rows = (reported : List (List E)) × AllZip IsReportedBy xs reported × (all_of reported ≡ rows)

  reported_kept : (x : X) (xs rest : List X) (rows : List E) → ¬ Out x → AllZip Own (x ∷ rest) rows → ((es : List E) → AllZip Own rest es → AreReported xs es) → AreReported (x ∷ xs) rows
  reported_kept x xs rest [] stays own more = absurd own
  reported_kept x xs rest (e ∷ es) stays own more =
      let t = more es own.1 in ((e ∷ []) ∷ t.0, (inr (stays, (e, refl, own.0)), t.1), ap (λ l. e ∷ l) t.2)

  pub reported_of : (xs kept : List X) (rows : List E) → LeavesOut Out xs kept → AllZip Own kept rows → AreReported xs rows
  reported_of [] kept rows left own = ([], tt, none_own rows (subst (λ l. AllZip Own l rows) left own))
  reported_of (x ∷ xs) kept rows (inl h) own = let t = reported_of xs kept rows h.1 own in ([] ∷ t.0, (inl (h.0, refl), t.1), t.2)
  reported_of (x ∷ xs) kept rows (inr h) own =
      reported_kept x xs h.1.0 rows h.0 (subst (λ l. AllZip Own l rows) h.1.1 own) (λ es o. reported_of xs h.1.0 es h.1.2 o)

  abbrev Kept : List X → List (List E) → Type 0
  Kept xs reported = (kept : List X) × LeavesOut Out xs kept × AllZip Own kept (all_of reported)

  kept_more : (x : X) (xs : List X) (es : List E) (reported : List (List E)) → IsReportedBy x es → Kept xs reported → Kept (x ∷ xs) (es ∷ reported)
  kept_more x xs es reported (inl h) k = (k.0, inl (h.0, k.1), subst (λ l. AllZip Own k.0 (l ++ all_of reported)) (sym h.1) k.2)
  kept_more x xs es reported (inr h) k =
      (x ∷ k.0, inr (h.0, (k.0, refl, k.1)), subst (λ l. AllZip Own (x ∷ k.0) (l ++ all_of reported)) (sym h.1.1) (h.1.2, k.2))

  pub kept_of : (xs : List X) (reported : List (List E)) → AllZip IsReportedBy xs reported → Kept xs reported
  kept_of [] [] h = ([], refl, tt)
  kept_of [] (es ∷ reported) h = absurd h
  kept_of (x ∷ xs) [] h = absurd h
  kept_of (x ∷ xs) (es ∷ reported) h = kept_more x xs es reported h.0 (kept_of xs reported h.1)

  one_at_most : (x : X) (es : List E) → IsReportedBy x es → length es ≤ 1
  one_at_most x es (inl h) = omega (arith, ap length h.1)
  one_at_most x es (inr h) = omega (arith, ap length h.1.1)

  pub reported_at_most : (xs : List X) (reported : List (List E)) → AllZip IsReportedBy xs reported → length (all_of reported) ≤ length reported
  reported_at_most [] [] h = omega arith
  reported_at_most [] (es ∷ reported) h = absurd h
  reported_at_most (x ∷ xs) [] h = absurd h
  reported_at_most (x ∷ xs) (es ∷ reported) h = omega (arith, length-append es (all_of reported), one_at_most x es h.0, reported_at_most xs reported h.1)

pub all_of-all : {E : Type 0} (all_reported : List (List (List E))) → all_of (map all_of all_reported) ≡ all_of (all_of all_reported)
all_of-all [] = refl
all_of-all {E} (reported ∷ all_reported) = ap (λ l. all_of reported ++ l) (all_of-all all_reported) ∙ sym (flat_map-append (λ (es : List E). es) reported (all_of all_reported))

-- ---- the shards' reports

module _ {R : Type 0} (gives : Gives R) (args : Arguments) where
  abbrev IsReportedAs : Trial R → List Entry → Type 0
  IsReportedAs t es = IsReportedBy (λ (x : Trial R). IsDropped args x) (IsEntryOf gives args) t es

  abbrev Reports : List (List (Trial R)) → List Report → Type 0
  Reports shards reports = AllZip (λ shard report. ReportsTrials gives args shard (contents_read report)) shards reports

  abbrev AreAllReported : List (List (Trial R)) → List Report → Type 0
  AreAllReported shards reports = (all_reported : List (List (List Entry))) × AllZip (AllZip IsReportedAs) shards all_reported × AllZip IsPermutation (map entries_in reports) (map all_of all_reported)
      × (joining.filtered_out_of reports + length (all_of (all_of all_reported)) ≡ length (all_of all_reported))

  one_more : (shard : List (Trial R)) (shards : List (List (Trial R))) (report : Report) (reports : List Report) → ReportsTrials gives args shard (contents_read report) → AreAllReported shards reports
      → AreAllReported (shard ∷ shards) (report ∷ reports)
  one_more shard shards report reports reports_trials all =
      let t = reported_of (λ (x : Trial R). IsDropped args x) (IsEntryOf gives args) shard reports_trials.selected reports_trials.entries reports_trials.selection reports_trials.own in
      let reported : List (List Entry) = t.0 in
      let sum : joining.filtered_out_of (report ∷ reports) ≡ joining.filtered_out_of (report ∷ []) + joining.filtered_out_of reports = filtered_out-append (report ∷ []) reports in
      let here : joining.filtered_out_of (report ∷ []) ≡ report.filtered_out = omega arith in
      let own : report.filtered_out ≡ length shard - length reports_trials.selected = reports_trials.filtered_out in
      let a : length shard ≡ length reported = each-length IsReportedAs shard reported t.1 in
      let b : length reports_trials.selected ≡ length reports_trials.entries = each-length (IsEntryOf gives args) reports_trials.selected reports_trials.entries reports_trials.own in
      let c : length (all_of reported) ≡ length reports_trials.entries = ap length t.2 in
      let d : length (all_of reported) ≤ length reported = reported_at_most (λ (x : Trial R). IsDropped args x) (IsEntryOf gives args) shard reported t.1 in
      let e : length (all_of (reported ∷ all.0)) ≡ length reported + length (all_of all.0) = length-append reported (all_of all.0) in
      let f : length (all_of (all_of (reported ∷ all.0))) ≡ length (all_of reported) + length (all_of (all_of all.0)) =
      ap length (flat_map-append (λ (es : List Entry). es) reported (all_of all.0)) ∙ length-append (all_of reported) (all_of (all_of all.0)) in
      let g : joining.filtered_out_of reports + length (all_of (all_of all.0)) ≡ length (all_of all.0) = all.3 in
      (reported ∷ all.0, (t.1, all.1), (subst (IsPermutation (entries_in report)) (sym t.2) reports_trials.order, all.2), omega (arith, sum, here, own, a, b, c, d, e, f, g))

  all_are_reported : (shards : List (List (Trial R))) (reports : List Report) → Reports shards reports → AreAllReported shards reports
  all_are_reported [] [] h = ([], tt, tt, refl)
  all_are_reported [] (report ∷ reports) h = absurd h
  all_are_reported (shard ∷ shards) [] h = absurd h
  all_are_reported (shard ∷ shards) (report ∷ reports) h = one_more shard shards report reports h.0 (all_are_reported shards reports h.1)

  joined_reports : (trials : List (Trial R)) (shards : List (List (Trial R))) (reports : List Report) (whole : Report) → in_turn shards ≡ trials → AreAllReported shards reports
      → IsJoined reports whole → ReportsTrials gives args trials (contents_read whole)
  joined_reports trials shards reports whole same all joined =
      let reported : List (List Entry) = in_turn all.0 in
      let each : AllZip IsReportedAs trials reported = subst (λ l. AllZip IsReportedAs l reported) same (each-in_turn IsReportedAs shards all.0 all.1) in
      let kept = kept_of (λ (x : Trial R). IsDropped args x) (IsEntryOf gives args) trials reported each in
      let turned : IsPermutation (all_of reported) (all_of (all_of all.0)) = parts-in_turn (λ (es : List Entry). es) all.0 in
      let ordered : IsPermutation (all_of (map entries_in reports)) (all_of (all_of all.0)) =
      subst (IsPermutation (all_of (map entries_in reports))) (all_of-all all.0) (concat_orders (map entries_in reports) (map all_of all.0) all.2) in
      let a : length trials ≡ length reported = each-length IsReportedAs trials reported each in
      let b : length kept.0 ≡ length (all_of reported) = each-length (IsEntryOf gives args) kept.0 (all_of reported) kept.2 in
      let c : length (all_of (all_of all.0)) ≡ length (all_of reported) = length_permutation (all_of reported) (all_of (all_of all.0)) turned in
      let d : length (all_of all.0) ≡ length reported = length_permutation reported (all_of all.0) (turns_are_all all.0) in
      let e : whole.filtered_out ≡ joining.filtered_out_of reports = joined.filtered_out in
      let f : joining.filtered_out_of reports + length (all_of (all_of all.0)) ≡ length (all_of all.0) = all.3 in
      record {
        selected = kept.0;
        selection = kept.1;
        entries = all_of reported;
        own = kept.2;
        order = IsPermutation-trans _ _ _ (entries_turned reports whole joined) (IsPermutation-trans _ _ _ ordered (IsPermutation-sym _ _ turned));
        filtered_out = omega (arith, a, b, c, d, e, f);
      }

pub joins_runs : {R : Type 0} (gives : Gives R) → JoinsRuns gives
joins_runs gives args count trials reports whole some each joined =
    let shards = shards_of count trials in
    joined_reports gives args trials shards reports whole (shards_in_turn count trials some) (all_are_reported gives args shards reports each) joined
