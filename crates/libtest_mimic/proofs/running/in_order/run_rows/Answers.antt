use Rattle.std.proofs.Common.{◌≡◌, ◌&&◌, ℕ, Bool, Option, ◌∙◌, ◌++◌, ◌∷◌, [], refl, rules, ap, append_assoc, arith, length, length-append, subst, sym, vec_len}
use Rattle.std.proofs.lemmas.List.Elements.{All-nil}
use Rattle.std.specs.Vec.Iter.{into_iter_items}
use Rattle.libtest_mimic.specs.Prelude.{has_time, IsOwnAt, IsTime, label_of, labels_of, Outcome, runner_of, selected_suite, Suite}
use Rattle.mimic_printer.proofs.Adding.{adds_nothing}
use Rattle.libtest_mimic.proofs.RowsInOrder.{All-next, can_count-tally, HasRoomFor-tally, RowsSoFar-push, all_ran, count_rows, label_at-next, longer, ran-next, stopped_before}
use Rattle.libtest_mimic.proofs.running.in_order.run_rows.Goals.{in-None, in-Some+then-has_fault}
use Rattle.libtest_mimic.proofs.running.in_order.run_rows.Goals as goal

pub loop-trial-init : goal.loop-trial-init
loop-trial-init g c =
    let suite : Suite _ = selected_suite c.args.request.selection c.args.printer.now in
    record {
      seen = search rules;
      room = c.requires.capacity;
      so_far = record {
        placed = [];
        ordered = refl;
        all = refl;
        own = All-nil (IsOwnAt g.R.Task.gives suite.args suite.trials);
        rows = [];
        timed = tt;
        text = adds_nothing c.args.sink.now;
        tally = c.requires.empty;
      };
      readings = refl;
    }

-- a row has a time exactly if it is to have one
fits : (here there : Bool) (o : Outcome) (time : Option ℕ) → there ≡ here → IsTime (there && has_time o) time → IsTime (here && has_time o) time
fits here there o time e = subst (λ (b : Bool). IsTime (b && has_time o) time) e

pub loop-trial-preserved : goal.loop-trial-preserved
loop-trial-preserved g c =
    let seen = c.loop-trial.yielded in
    let suite : Suite _ = selected_suite c.args.request.selection c.args.printer.now in
    let ran = ran-next g.R.Task.gives suite.args seen _ _ suite.trials c.in-Some.trial c.in-Some.ensures.steps.0 c.loop-trial.invariant.seen _ _ _ _ c.into_parts-info.ensures.info c.into_parts-info.ensures.runner c.is_ignored-ignored.ensures c.run_unless-outcome.ensures in
    let time = fits _ _ _ _ (c.elapsed.ensures.asked ∙ c.start-started.ensures.asked) c.time_shown-nanos.ensures in
    let next = RowsSoFar-push g.R.Task.gives g.W.Write.contents suite (length seen) c.loop-trial.tally c.loop-trial.invariant.so_far c.into_parts-info.result.0 _ c.time_shown-nanos.result ran.0 ran.1 time
    c.record.new.self c.add_test.ensures c.add_outcome.ensures c.record.ensures.counted in
    record {
      seen = append_assoc seen (c.in-Some.trial ∷ []) _ ∙ (ap (λ l. seen ++ l) (sym c.in-Some.ensures.steps.0) ∙ c.loop-trial.invariant.seen);
      room = c.record.ensures.room _ c.loop-trial.invariant.room;
      so_far = rw (length-append seen (c.in-Some.trial ∷ [])) next;
      readings = c.elapsed.ensures.readings ∙ c.start-started.ensures.readings ∙ c.loop-trial.invariant.readings;
    }

pub run_unless-outcome-requires : goal.run_unless-outcome-requires
run_unless-outcome-requires g c =
    let split = ap (λ l. c.loop-trial.yielded ++ l) (sym c.in-Some.ensures.steps.0) ∙ c.loop-trial.invariant.seen in
    subst g.R.Task.can_run (sym c.into_parts-info.ensures.runner)
    (All-next (λ t. g.R.Task.can_run (runner_of t)) c.loop-trial.yielded _ c.args.request.selection.trials.items c.in-Some.trial split c.requires.runnable)

pub record-requires-clause-counts : goal.record-requires-clause-counts
record-requires-clause-counts g c =
    let so_far = c.loop-trial.invariant.so_far in
    let split = ap (λ l. c.loop-trial.yielded ++ l) (sym c.in-Some.ensures.steps.0) ∙ c.loop-trial.invariant.seen in
    can_count-tally c.loop-trial.tally _ _ _ so_far.tally (omega (arith, count_rows (labels_of c.args.request.selection.trials.items) so_far.placed, so_far.all, longer c.loop-trial.yielded _ c.args.request.selection.trials.items c.in-Some.trial split, c.args.request.selection.trials.ok.0, c.args.request.selection.trials.small))

pub record-requires-clause-room : goal.record-requires-clause-room
record-requires-clause-room g c =
    let so_far = c.loop-trial.invariant.so_far in
    let split = ap (λ l. c.loop-trial.yielded ++ l) (sym c.in-Some.ensures.steps.0) ∙ c.loop-trial.invariant.seen in
    HasRoomFor-tally c.loop-trial.tally _ _ (vec_len c.args.request.selection.trials) so_far.tally c.loop-trial.invariant.room
    (omega (arith, count_rows (labels_of c.args.request.selection.trials.items) so_far.placed, so_far.all, longer c.loop-trial.yielded _ c.args.request.selection.trials.items c.in-Some.trial split, c.args.request.selection.trials.ok.0))

pub returns-clause-rows : goal.returns-clause-rows
returns-clause-rows g c =
    let seen = c.loop-trial.yielded in
    let suite : Suite _ = selected_suite c.args.request.selection c.args.printer.now in
    let so_far = c.loop-trial.invariant.so_far in
    elim c.match-next.branch [
      | in-None w ↦
          let none : length (into_iter_items c.loop-trial.trial-iterator) ≡ 0 = sym c.loop-trial.trial-iterator.rest.ok.0 ∙ w.in-None.ensures.steps.0 in
          rw w.sink-is (all_ran g.R.Task.gives g.W.Write.contents suite (length seen) c.loop-trial.tally so_far
          (omega (arith, none, length-append seen (into_iter_items c.loop-trial.trial-iterator), ap length c.loop-trial.invariant.seen)))
      | in-Some+then-has_fault w ↦
          let split = ap (λ l. seen ++ l) (sym w.in-Some.ensures.steps.0) ∙ c.loop-trial.invariant.seen in
          let label = ap label_of w.into_parts-info.ensures.info ∙ label_at-next seen _ suite.trials w.in-Some.trial (length seen) split refl in
          rw w.sink-is (stopped_before g.R.Task.gives g.W.Write.contents suite (length seen) c.loop-trial.tally so_far w.into_parts-info.result.0 _
          label (longer seen _ suite.trials w.in-Some.trial split) w.add_test.ensures (sym w.has_fault.ensures ∙ w.if-has_fault.true))
    ]
