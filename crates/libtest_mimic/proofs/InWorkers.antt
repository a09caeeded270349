-- A report of what workers answered, or what a refused one leaves.
use Rattle.std.proofs.Common.{◌≡◌, ◌≢◌, ◌∙◌, ◌≤◌, ◌<◌, ◌^◌, ◌++◌, inl, inr, ℕ, Bool, not, List, [], Some, length, map, refl, sym, ap, subst, arith}
use Rattle.std.specs.List.{range_with_len}
use Rattle.std.specs.List.Sorted.{IsPermutation}
use Rattle.std.specs.Prelude.{All}
use Rattle.libtest_mimic.specs.Prelude.{AreParts, AreSupplied, AreTimed, Arguments, Arrived, assigned_from, Conclusion, counts_of, elapsed_of, failures_text, Gathered, Gives, Holds, in_order, info_of, IsArrangement, IsGathered, IsOwnAt, IsRowOf, IsRunning, label_of, labels_of, Outcome, outcomes_of, Placed, placed_at, places_of, PrintedRow, Put, PutsTitled, Reported, ReportRefused, rows_at, rows_of, rows_text, RowsRefused, RunError, runner_of, Shown, start_text, Stopped, Suite, summary_text, TestInfo, title_text, Trial, WaitingTrials, Watched, WriteFault}
use Rattle.std.proofs.lemmas.List.{length-map}
use Rattle.std.proofs.lemmas.List.Sorted.{IsPermutation-refl}
use Rattle.libtest_mimic.specs.declared.running.RunError.TheVariants.{OutOfMemory, Write, ZeroThreads, Spawn, Arrival}
use Rattle.libtest_mimic.proofs.Arranged.{arranged, flags_length, labels_apart, length_assigned, length_gathered, order_below, rows_own, whole_gathered}
use Rattle.libtest_mimic.proofs.OnlyOutcomes.{outcomes_of-rows_at}
use Rattle.libtest_mimic.proofs.WholeReport.{reported, started, starts_failures, starts_some, starts_summary, starts_title, titled}

parts_shown : {R : Type 0} (args : Arguments) (trials : List (Trial R)) (infos shown : List TestInfo) (rs : List R) (bs : List Bool) → shown ≡ infos
    → AreParts args trials infos rs bs → AreParts args trials shown rs bs
parts_shown args trials infos shown rs bs e parts = record { each_info = e ∙ parts.each_info; each_runner = parts.each_runner; each_flag = parts.each_flag }

-- trials that were supplied, and what is shown of each
module _ {R : Type 0} (gives : Gives R) (suite : Suite R) (can_run : R → Type 0) (waiting : WaitingTrials R) (known infos : List TestInfo) (are : infos ≡ known) (supplied : AreSupplied can_run suite.args suite.trials known waiting) where
  abbrev rs : List R
  rs = supplied.runners

  abbrev bs : List Bool
  bs = supplied.flags

  parts : AreParts suite.args suite.trials infos rs bs
  parts = parts_shown suite.args suite.trials known infos rs bs are supplied.parts

  abbrev GatheredOf : List ℕ → List Outcome → Type 0
  GatheredOf order outs = Gathered gives (not suite.args.bench) (assigned_from 0 rs bs) order outs

  of_trials : (order : List ℕ) (outs : List Outcome) → GatheredOf order outs → Gathered gives (not suite.args.bench) (assigned_from 0 (map runner_of suite.trials) bs) order outs
  of_trials order outs h = subst (λ (l : List R). Gathered gives (not suite.args.bench) (assigned_from 0 l bs) order outs) parts.each_runner h

  count : length infos ≡ length suite.trials
  count = ap length parts.each_info ∙ length-map suite.trials info_of

  arrangement : (order : List ℕ) (outs : List Outcome) → GatheredOf order outs → IsArrangement gives suite.args suite.trials (placed_at order outs)
  arrangement order outs h = arranged gives suite.args suite.trials bs outs order parts.each_flag (of_trials order outs h)

  -- as many runners and flags as infos
  runners_of_infos : length rs ≡ length infos
  runners_of_infos = ap length parts.each_runner ∙ length-map suite.trials runner_of ∙ sym count

  flags_of_infos : length bs ≡ length infos
  flags_of_infos = sym (flags_length suite.args suite.trials bs parts.each_flag) ∙ sym count

  pub held_of : (rs' : List R) × (bs' : List Bool) × (length rs' ≡ length infos) × (length bs' ≡ length infos) × Holds can_run waiting (assigned_from 0 rs' bs')
  held_of = (rs, bs, runners_of_infos, flags_of_infos, supplied.held)

  -- as many were put as there are trials
  as_many_put : length (assigned_from 0 rs bs) ≡ length suite.trials
  as_many_put = length_assigned 0 rs bs (runners_of_infos ∙ sym flags_of_infos) ∙ runners_of_infos ∙ count

  -- rows of what was put are the trials' own
  placed_own : (placed : List Placed) → All (IsRowOf gives (not suite.args.bench) (assigned_from 0 rs bs)) placed → All (IsOwnAt gives suite.args suite.trials) placed
  placed_own placed own =
      let runners = parts.each_runner in
      rows_own gives suite.args suite.trials bs placed parts.each_flag (subst (λ l. length (assigned_from 0 l bs) ≡ length suite.trials) runners as_many_put)
      (subst (λ l. All (IsRowOf gives (not suite.args.bench) (assigned_from 0 l bs)) placed) runners own)

  -- what rows of the infos show is what rows of the trials do
  rows_same : (placed : List Placed) → rows_at (map label_of infos) placed ≡ rows_of suite placed
  rows_same placed = ap (λ l. rows_at (map label_of l) placed) parts.each_info ∙ ap (λ l. rows_at l placed) (labels_apart suite.trials)

  timed_same : (asked : Bool) → asked ≡ suite.args.report_time → (placed : List Placed) (rows : List PrintedRow) → AreTimed asked (rows_at (map label_of infos) placed) rows → AreTimed suite.args.report_time (rows_of suite placed) rows
  timed_same asked e placed rows timed = subst (λ (b : Bool). AreTimed b (rows_of suite placed) rows) e (subst (λ l. AreTimed asked l rows) (rows_same placed) timed)

  -- the title of the infos is that of the trials
  titled_same : (text : List ℕ) → title_text suite.printer (length infos) ++ text ≡ title_text suite.printer (length suite.trials) ++ text
  titled_same text = ap (λ (n : ℕ). title_text suite.printer n ++ text) count

  -- ---- the failures

  module _ (order : List ℕ) (outs : List Outcome) (gathered : GatheredOf order outs) where
    whole : IsPermutation order (range_with_len 0 (length outs))
    whole = whole_gathered gives suite.args suite.trials bs outs order parts.each_flag (of_trials order outs gathered)

    as_many_infos : length infos ≡ length outs
    as_many_infos = count ∙ sym (length_gathered gives suite.args suite.trials bs outs order parts.each_flag (of_trials order outs gathered))

    -- each place has its info
    below : All (λ p. p < length infos) order
    below = subst (λ (n : ℕ). All (λ p. p < n) order) (sym as_many_infos) (order_below (length outs) order whole)

  -- ---- the report of some threads

  module _ (threads : ℕ) (several : 2 ≤ threads) (some : suite.trials ≢ []) where
    in_some_order : {P : Type 0} → threads ≡ 1 → P
    in_some_order one = absurd (omega (arith, one, several))

    some_thread : {P : Type 0} → threads ≡ 0 → P
    some_thread none = absurd (omega (arith, none, several))

    -- what is left if title and rows were refused
    refused_by : (asked : Bool) → asked ≡ suite.args.report_time → (a b : Shown) (w : Watched) (e : RunError) → IsRunning w
        → RowsRefused gives (not suite.args.bench) (assigned_from 0 rs bs) asked suite.printer infos a b e → ReportRefused gives threads suite a b w e
    refused_by asked is a b w OutOfMemory r h = (some, h, r)
    refused_by asked is a b w (Write fault) r (inl s) =
        (in_order suite, IsPermutation-refl (in_order suite), (λ one. refl), some_thread, starts_title gives suite (in_order suite) a b w (length infos) count r s)
    refused_by asked is a b w (Write fault) r (inr (placed, left, rows, gathered, timed, s)) =
        let P : List ℕ → Type 0 = λ t. Stopped a b t in
        let order = subst (λ (n : ℕ). IsPermutation (places_of placed ++ left) (range_with_len 0 n)) as_many_put gathered.places in
        let start = starts_some gives suite placed left rows (placed_own placed gathered.own) (timed_same asked is placed rows timed) a b w r (subst P (titled_same (rows_text suite.printer rows)) s) in
        (places_of placed ++ left, order, in_some_order, some_thread, start)
    refused_by asked is a b w ZeroThreads r h = absurd h
    refused_by asked is a b w Spawn r h = (several, some, subst (λ (n : ℕ). Put a b (title_text suite.printer n)) count h, r)
    refused_by asked is a b w (Arrival place) r (low, h) = (several, subst (λ (n : ℕ). place < n) as_many_put low, h, r)

    pub rows_refused : (asked : Bool) → asked ≡ suite.args.report_time → (a b : Shown) (w : Watched) (e : RunError) → IsRunning w
        → ((rs' : List R) (bs' : List Bool) → length rs' ≡ length infos → length bs' ≡ length infos → Holds can_run waiting (assigned_from 0 rs' bs')
        → RowsRefused gives (not suite.args.bench) (assigned_from 0 rs' bs') asked suite.printer infos a b e) → ReportRefused gives threads suite a b w e
    rows_refused asked is a b w e r said = refused_by asked is a b w e r (said rs bs runners_of_infos flags_of_infos supplied.held)

    module _ (asked : Bool) (is : asked ≡ suite.args.report_time) (desk : Arrived) (a c : Shown)
        (said : (rs' : List R) (bs' : List Bool) → length rs' ≡ length infos → length bs' ≡ length infos → Holds can_run waiting (assigned_from 0 rs' bs')
        → IsGathered gives (not suite.args.bench) (assigned_from 0 rs' bs') desk × PutsTitled asked suite.printer infos desk a c) where
      gathered : IsGathered gives (not suite.args.bench) (assigned_from 0 rs bs) desk
      gathered = (said rs bs runners_of_infos flags_of_infos supplied.held).0

      put : PutsTitled asked suite.printer infos desk a c
      put = (said rs bs runners_of_infos flags_of_infos supplied.held).1

      -- the rows were written without a fault, and each place has its info
      pub no_fault : c.faults ≡ a.faults
      no_fault = put.2.faults

      pub can_show : All (λ p. p < length infos) (places_of desk.rows)
      can_show = below (places_of desk.rows) gathered.outcomes gathered.gathered

      abbrev placed : List Placed
      placed = placed_at (places_of desk.rows) gathered.outcomes

      all : IsArrangement gives suite.args suite.trials placed
      all = arrangement (places_of desk.rows) gathered.outcomes gathered.gathered

      abbrev rows : List PrintedRow
      rows = put.0

      timed : AreTimed suite.args.report_time (rows_of suite placed) rows
      timed = timed_same asked is placed rows (subst (λ (l : List Placed). AreTimed asked (rows_at (map label_of infos) l) rows) gathered.rows put.1)

      written : Put a c (titled gives suite placed all rows timed)
      written = let P : List ℕ → Type 0 = λ t. Put a c t in subst P (titled_same (rows_text suite.printer rows)) put.2

      abbrev shows : List PrintedRow
      shows = rows_at (map label_of infos) desk.rows

      same : shows ≡ rows_of suite placed
      same = ap (rows_at (map label_of infos)) gathered.rows ∙ rows_same placed

      module _ (d : Shown) where
        pub failures_refused : (w : Watched) (fault : WriteFault) → IsRunning w → Stopped c d (failures_text suite.printer shows) → ReportRefused gives threads suite a d w (Write fault)
        failures_refused w fault r s =
            let P : List PrintedRow → Type 0 = λ l. Stopped c d (failures_text suite.printer l) in
            (places_of placed, all.places, in_some_order, some_thread, starts_failures gives suite placed all rows timed a c d written w r (subst P same s))

        module _ (failures : Put c d (failures_text suite.printer shows)) (x : Conclusion) (counted : x ≡ counts_of (map (λ (row : Placed). row.1) desk.rows) suite.filtered_out)
            (f : Shown) (w : Watched) (nanos : ℕ) (time : elapsed_of w ≡ Some nanos) where
          start : Put a d (start_text suite rows [])
          start = let P : List PrintedRow → Type 0 = λ l. Put c d (failures_text suite.printer l) in started gives suite placed all rows timed a c d written (subst P same failures)

          counts : x ≡ counts_of (outcomes_of (rows_of suite placed)) suite.filtered_out
          counts =
              let of : List Outcome → Conclusion = λ l. counts_of l suite.filtered_out in
              counted ∙ ap (λ l. of (map (λ (row : Placed). row.1) l)) gathered.rows ∙ ap of (sym (outcomes_of-rows_at (labels_of suite.trials) placed))

          pub summary_refused : (fault : WriteFault) → Stopped d f (summary_text suite.printer x nanos) → ReportRefused gives threads suite a f w (Write fault)
          summary_refused fault s =
              (places_of placed, all.places, in_some_order, some_thread, starts_summary gives suite placed all rows timed a d start f w nanos x counts time s)

          pub reported_by : nanos < 2 ^ 64 → Put d f (summary_text suite.printer x nanos) → Reported gives threads suite a f w x
          reported_by fits s = reported gives suite placed all rows timed a d start f w nanos x counts time threads in_some_order some_thread fits s
